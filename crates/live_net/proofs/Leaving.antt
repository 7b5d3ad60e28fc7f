-- What leaves an end, as contracts see it.
use Rattle.std.proofs.Common.{◌≡◌, ◌∙◌, ap, ℕ, List, map, Bool, true, false, if◌then◌else◌, Option, Some, None, MatchOption, unwrap_or, option_map}
use Rattle.std.proofs.lemmas.List.{map-set}
use Rattle.std.proofs.lemmas.Option.{slice_get-map}
use Rattle.dcp_types.specs.declared.addresses.Address.{Address}
use Rattle.dcp_ends.specs.Logs.{same_address}
use Rattle.dcp_net.specs.declared.nets.Done.{Done}
use Rattle.dcp_net.specs.declared.nets.Done.TheVariants as done
use Rattle.dcp_types.specs.declared.protocols.Protocol.TheVariants as by
use Rattle.stream_frame.specs.Greetings.{greeting}
use Rattle.live_net.specs.declared.departures.Outward.{Outward}
use Rattle.live_net.specs.Departures.{SendLine, wire_waits, leaving_of, with_message, WritesAs, Flushes, PostsIfAny, Connects, is_lost}
use Rattle.live_net.specs.Receivers.{SendsAt, Departs, DepartsIf, place_to}
use Rattle.live_net.specs.Live.{WaitsFor, LeavesAt, LeavesFor, LeavesIf}
use Rattle.live_net.proofs.Places.{position-map}

left_if : (lost : Bool) (bytes : List ℕ) (before after : SendLine) → WritesAs bytes before after → WaitsFor bytes (wire_waits (if lost then None else Some after))
left_if true bytes before after w = tt
left_if false bytes before after w = (w.count, w.rest)

left_of : (bytes : List ℕ) (before : SendLine) (now : Option SendLine) → Flushes bytes before now → WaitsFor bytes (wire_waits now)
left_of bytes before now f = rw f.kept (left_if (is_lost f.after) bytes before f.after f.writes)

sent_over : (from to : Address) (message : List ℕ) (link wire now : Option SendLine) → Connects from to link wire → PostsIfAny message wire now
    → WaitsFor (with_message (unwrap_or (wire_waits link) (greeting from)) message) (wire_waits now)
sent_over from to message None None now c p = rw p tt
sent_over from to message None (Some w) now c p = rw (← c.0) (left_of (with_message w.waits message) w now p)
sent_over from to message (Some l) wire now c p = left_of (with_message l.waits message) l now (rw c at p)

seen_at : (from to : Address) (message : List ℕ) (old new : List Outward) (found : Option ℕ)
    → MatchOption found (new ≡ old) (λ place. SendsAt place from message old new)
    → MatchOption found (map leaving_of new ≡ map leaving_of old) (λ place. LeavesAt place from message (map leaving_of old) (map leaving_of new))
seen_at from to message old new None same = ap (map leaving_of) same
seen_at from to message old new (Some place) sent = record {
  before = leaving_of sent.before;
  after = leaving_of sent.after;
  here = slice_get-map leaving_of old place ∙ ap (option_map leaving_of) sent.here;
  to = sent.sends.to;
  waits = sent_over from sent.before.to message sent.before.link sent.sends.wire sent.after.link sent.sends.connects sent.sends.posts;
  others = ap (map leaving_of) sent.others ∙ map-set leaving_of old place sent.after;
}

departs_seen : (from to : Address) (message : List ℕ) (old new : List Outward) → Departs from to message old new
    → LeavesFor from to message (map leaving_of old) (map leaving_of new)
departs_seen from to message old new departs =
    rw (position-map (λ l. same_address l.to to) leaving_of old) (seen_at from to message old new (place_to to old) departs)

pub leaves_seen : (result : Done) (from to : Address) (message : List ℕ) (old new : List Outward) → DepartsIf result from to message old new
    → LeavesIf result by.Tcp from to message (map leaving_of old) (map leaving_of new)
leaves_seen done.Ok from to message old new departs = departs_seen from to message old new departs
leaves_seen done.Failed from to message old new departs = absurd departs
leaves_seen done.OutOfMemory from to message old new departs = ap (map leaving_of) departs
