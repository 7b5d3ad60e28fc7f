-- What contracts see of a reader, and what one question for a frame does.
use Rattle.std.specs.Prelude.{◌≡◌, ◌≤◌, ◌-◌, ℕ, Bool, true, false, List, [], length, if◌then◌else◌}
use Rattle.stream_frame.specs.declared.frames.Frame.{Frame}
use Rattle.stream_frame.specs.declared.frames.Frame.TheVariants.{Whole, NotYet, Bad}
use Rattle.stream_frame.specs.Frames.{BeginsWith, HasFrame, BeginsBad, IsBad}

-- the bytes that are held, the last frame that was handed out, and whether a bad length was answered
pub record Framing : Type 0 where
  pub held : List ℕ
  pub last : List ℕ
  pub is_refused : Bool

abbrev pub fresh_framing : Framing
fresh_framing = record { held = []; last = []; is_refused = false }

-- how many bytes a feed takes at most: 1,028 are held at most, and none is taken after a bad length was answered
abbrev pub space_of : Bool → List ℕ → ℕ
space_of is_refused held = if is_refused then 0 else 1028 - length held

abbrev pub space : Framing → ℕ
space reader = space_of reader.is_refused reader.held

-- what a question for a frame does: a whole frame leaves the held bytes, and else nothing changes but that a bad length was answered; where more bytes are
-- wanted there is room for at least one
abbrev pub Asks : Framing → Framing → Frame → Type 0
Asks old new Whole = BeginsWith old.held new.last new.held × (new.is_refused ≡ old.is_refused)
Asks old new NotYet = (¬ HasFrame old.held) × (¬ IsBad old.held) × (new ≡ old) × (1 ≤ space new)
Asks old new (Bad n) = BeginsBad old.held n × (new ≡ record old { is_refused = true })
