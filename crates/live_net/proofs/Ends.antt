-- A call at one of the ends of a network.
use Rattle.std.proofs.Common.{◌≡◌, ◌∙◌, refl, sym, ap, subst, ℕ, ◌<◌, List, [], ◌∷◌, length, map, set, get_or, slice_get, Option, Some, None, MatchOption, option_map, Result, Ok, Err, IfOk, arith}
use Rattle.std.proofs.Math.Seq.{map-set_same}
use Rattle.std.proofs.lemmas.List.{length-map, map-set}
use Rattle.std.proofs.lemmas.Option.{slice_get-map, slice_get_read, get_or_from_slice_get}
use Rattle.dcp_types.specs.declared.addresses.Address.{Address}
use Rattle.dcp_types.specs.declared.protocols.Protocol.{Protocol}
use Rattle.dcp_types.specs.declared.protocols.Protocol.TheVariants as by
use Rattle.dcp_net.specs.declared.nets.Done.{Done}
use Rattle.dcp_net.specs.declared.nets.Done.TheVariants as done
use Rattle.dcp_net.specs.declared.nets.Taken.{Taken}
use Rattle.dcp_net.specs.declared.nets.Taken.TheVariants as taken
use Rattle.live_net.specs.declared.live_ends.LiveEnd.{LiveEnd}
use Rattle.live_net.specs.declared.refusals.Refused.{Refused}
use Rattle.live_net.specs.declared.refusals.Refused.TheVariants as refused
use Rattle.live_net.specs.Answers.{begun_as}
use Rattle.live_net.specs.Live.{At, SocketEnd, Live, SendsBy, SendsFrom, TakesHere, TakesBy, socket_places, socket_end, opened_as, end_place}

abbrev place_at : SocketEnd → Address
place_at e = e.place

pub at_end : (Change : SocketEnd → SocketEnd → Type 0) (old : Live) (all : List Address) (ends : List LiveEnd) (place faults : ℕ) (before after : LiveEnd)
    → record { all = all; ends = map socket_end ends; faults = faults } ≡ old → place < length old.ends → before ≡ get_or ends place before
    → Change (socket_end before) (socket_end after) → At place Change old (record { all = all; ends = map socket_end (set ends place after); faults = faults })
at_end Change old all ends place faults before after seen within is change =
    let same : map socket_end ends ≡ old.ends = ap (λ (l : Live). l.ends) seen in
    let here : place < length ends = omega (arith, within, ap (λ (es : List SocketEnd). length es) same, length-map ends socket_end) in
    record {
      before = socket_end before;
      after = socket_end after;
      here = ap (λ (es : List SocketEnd). slice_get es place) (sym same) ∙ slice_get-map socket_end ends place
          ∙ ap (option_map socket_end) (slice_get_read ends (length ends) place before refl here is);
      change = change;
      others = map-set socket_end ends place after ∙ ap (λ (es : List SocketEnd). set es place (socket_end after)) same;
    }

pub sends_from : (from to : Address) (message : List ℕ) (result : Done) (old new : Live) (place : ℕ) → Some place ≡ end_place from old.ends
    → At place (SendsBy to message result) old new → SendsFrom from to message result old new
sends_from from to message result old new place found at =
    let P : Option ℕ → Type 0 = λ o. MatchOption o ((result ≡ done.Ok) × (new.ends ≡ old.ends)) (λ k. At k (SendsBy to message result) old new) in
    subst P found at

pub takes_at : (at : Address) (result : Taken) (room : List ℕ) (old new : Live) (place : ℕ) → Some place ≡ end_place at old.ends
    → At place (TakesBy result room) old new → TakesHere at result room old new
takes_at at result room old new place found there =
    let P : Option ℕ → Type 0 = λ o. MatchOption o ((result ≡ taken.Nothing) × (new.ends ≡ old.ends)) (λ k. At k (TakesBy result room) old new) in
    subst P found there

hosted_at : (place : ℕ) (Change : SocketEnd → SocketEnd → Type 0) (old new : Live) (there : At place Change old new) → there.after.place ≡ there.before.place
    → socket_places new ≡ socket_places old
hosted_at place Change old new there same =
    let before = sym (ap place_at (get_or_from_slice_get old.ends place there.before there.before there.here)) in
    ap (λ (es : List SocketEnd). map place_at es) there.others ∙ map-set_same place_at old.ends place there.after there.before (same ∙ before)

after_send : (to : Address) (message : List ℕ) (result : Done) (old new : Live) (found : Option ℕ)
    → MatchOption found ((result ≡ done.Ok) × (new.ends ≡ old.ends)) (λ place. At place (SendsBy to message result) old new) → socket_places new ≡ socket_places old
after_send to message result old new None same = ap (λ (es : List SocketEnd). map place_at es) same.1
after_send to message result old new (Some place) there = hosted_at place (SendsBy to message result) old new there there.change.place

pub hosted_after_send : (from to : Address) (message : List ℕ) (result : Done) (old new : Live) → SendsFrom from to message result old new → socket_places new ≡ socket_places old
hosted_after_send from to message result old new sends = after_send to message result old new (end_place from old.ends) sends

after_take : (result : Taken) (room : List ℕ) (old new : Live) (found : Option ℕ)
    → MatchOption found ((result ≡ taken.Nothing) × (new.ends ≡ old.ends)) (λ place. At place (TakesBy result room) old new) → socket_places new ≡ socket_places old
after_take result room old new None same = ap (λ (es : List SocketEnd). map place_at es) same.1
after_take result room old new (Some place) there = hosted_at place (TakesBy result room) old new there there.change.place

pub hosted_after_take : (at : Address) (result : Taken) (room : List ℕ) (old new : Live) → TakesHere at result room old new → socket_places new ≡ socket_places old
hosted_after_take at result room old new takes = after_take result room old new (end_place at old.ends) takes

opened_place : (protocol : Protocol) (all : List Address) (place : Address) → (opened_as protocol all place).place ≡ place
opened_place by.Udp all place = refl
opened_place by.Tcp all place = refl

pub opened_places : (protocol : Protocol) (all places : List Address) → map place_at (map (opened_as protocol all) places) ≡ places
opened_places protocol all [] = refl
opened_places protocol all (place ∷ places) =
    ap (λ (x : Address). x ∷ map place_at (map (opened_as protocol all) places)) (opened_place protocol all place) ∙ ap (λ (xs : List Address). place ∷ xs) (opened_places protocol all places)

-- what holds where sockets were opened
pub where_begun : {A : Type 0} (P : Type 0) (opened : Result A Refused) → IfOk opened (λ x. P) → begun_as opened ≡ done.Ok → P
where_begun P (Ok x) holds begun = holds
where_begun P (Err refused.System) holds begun = absurd cc
where_begun P (Err refused.OutOfMemory) holds begun = absurd cc
