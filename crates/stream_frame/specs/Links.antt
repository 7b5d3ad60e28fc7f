-- One connection at its sender: what was to be sent, and what of it still waits.
use Rattle.std.specs.Prelude.{◌≡◌, ◌+◌, ◌<◌, ◌≤◌, ℕ, List, [], ◌∷◌, ◌++◌, length, take, drop, Option}
use Rattle.std.specs.Io.KnownBytes.{Appends, Keeps}
use Rattle.dcp_types.specs.declared.addresses.Address.{Address}
use Rattle.dcp_io.specs.Faults.{Rose}
use Rattle.dcp_io.specs.declared.writes.Written.{Written}
use Rattle.dcp_io.specs.declared.writes.Written.TheVariants as written
use Rattle.stream_frame.specs.Frames.{in_stream, all_in_stream}
use Rattle.stream_frame.specs.declared.links.Posted.{Posted}
use Rattle.stream_frame.specs.declared.links.Posted.TheVariants as posted
use Rattle.stream_frame.specs.declared.links.Flushed.{Flushed}
use Rattle.stream_frame.specs.declared.links.Flushed.TheVariants as flushed
use Rattle.stream_frame.specs.Greetings.{greeting}

-- a link: its sink, and the bytes that wait to be written
pub record LinkOutbox (K : Type 0) : Type 0 where
  pub sink : K
  pub waits : List ℕ

-- What a sink that told `start` when the link was made, and tells `now`, has got since, followed by what waits, is the greeting of the sender followed by
-- the frames of all messages that were taken, in order.
pub record Carries (start now : Option (List ℕ)) (waits : List ℕ) (from : Address) (messages : List (List ℕ)) : Type 0 where
  pub got : List ℕ
  pub told : Appends start now got
  pub stream : got ++ waits ≡ greeting from ++ all_in_stream messages

module _ {K : Type 0} where
  -- a message is taken exactly where 65,536 bytes hold what waits and its frame, and else nothing changes
  abbrev pub Posts : LinkOutbox K → LinkOutbox K → List ℕ → Posted → Type 0
  Posts old new pdu posted.Taken = (length old.waits + (4 + length pdu) ≤ 65536) × (new ≡ record old { waits = old.waits ++ in_stream pdu })
  Posts old new pdu posted.Full = (65536 < length old.waits + (4 + length pdu)) × (new ≡ old)

-- the messages that were taken
abbrev pub with_posted : Posted → List ℕ → List (List ℕ) → List (List ℕ)
with_posted posted.Taken pdu messages = messages ++ pdu ∷ []
with_posted posted.Full pdu messages = messages

-- bytes that stand at the front of others, at least one
pub record Front (front all : List ℕ) : Type 0 where
  pub some : 1 ≤ length front
  pub few : length front ≤ length all
  pub same : take (length front) all ≡ front

-- a front of what waited was written, and the rest waits
pub record Sent (old new : Option (List ℕ)) (waited waits : List ℕ) : Type 0 where
  pub count : ℕ
  pub added : Appends old new (take count waited)
  pub rest : waits ≡ drop count waited

-- one write took some of what waited, or none where it failed
abbrev pub WritesFront : (old new : Option (List ℕ)) (before now : ℕ) (waited waits : List ℕ) → Written → Type 0
WritesFront old new before now waited waits (written.Wrote n) = (1 ≤ n) × (n ≤ length waited) × Appends old new (take n waited) × (waits ≡ drop n waited) × (now ≡ before)
WritesFront old new before now waited waits written.Failed = Keeps old new × (waits ≡ waited) × (before ≤ now) × Rose before now

-- a flush is empty exactly where nothing waits afterwards
abbrev pub EndsFlush : List ℕ → Flushed → Type 0
EndsFlush waits flushed.Empty = waits ≡ []
EndsFlush waits flushed.Failed = 1 ≤ length waits

-- a flush fails only where the count of faults rose
abbrev pub FailsFlush : (before now : ℕ) → Flushed → Type 0
FailsFlush before now flushed.Empty = now ≡ before
FailsFlush before now flushed.Failed = (before ≤ now) × Rose before now
