-- The form of a log.
use Rattle.std.specs.Prelude.{◌≡◌, ℕ, ◌<◌, ◌≤◌, ◌⊎◌, List, [], ◌∷◌, ◌++◌, zero, suc, Option, None, Some, Bool, false, MatchBool, map}
use Rattle.dcp_types.specs.declared.addresses.Address.{Address}
use Rattle.dcp_ends.specs.Events.{Rules}
use Rattle.dcp_ends.specs.Logs.{events_at}
use Rattle.dcp_ends.specs.declared.entries.LogEntry.{LogEntry}
use Rattle.dcp_ends.specs.declared.entries.LogEntry.TheVariants.{Sent, Got, Idle, Turn}

-- all of them are this end's Sents
abbrev pub AllSent : Address → List LogEntry → Type 0
AllSent a [] = Unit {0}
AllSent a (Sent from to bytes ∷ part) = (from ≡ a) × AllSent a part
AllSent a (Got at from bytes ∷ part) = ⊥
AllSent a (Idle at ∷ part) = ⊥
AllSent a (Turn at ∷ part) = ⊥

-- a Got at this end, followed by its Sents
pub record IsGot (a : Address) (part : List LogEntry) : Type 0 where
  pub from : Address
  pub bytes : List ℕ
  pub sents : List LogEntry
  pub form : part ≡ Got a from bytes ∷ sents
  pub own : AllSent a sents

-- a Turn of this end, followed by its Sents
pub record IsTurn (a : Address) (part : List LogEntry) : Type 0 where
  pub sents : List LogEntry
  pub form : part ≡ Turn a ∷ sents
  pub own : AllSent a sents

-- so many Gots at this end, each followed by its Sents
abbrev pub Gots : Address → ℕ → List LogEntry → Type 0
Gots a zero part = part ≡ []
Gots a (suc n) part = (before : List LogEntry) × (last : List LogEntry) × (part ≡ before ++ last) × Gots a n before × IsGot a last

-- at most 64 Gots at this end, and an Idle where they are fewer
pub record IsLook (a : Address) (part : List LogEntry) : Type 0 where
  pub count : ℕ
  pub gots : List LogEntry
  pub form : Gots a count gots
  pub most : count ≤ 64
  pub full : count ≡ 64 → part ≡ gots
  pub idle : count < 64 → part ≡ gots ++ Idle a ∷ []

-- what there is of a take that was refused, before it or among the sends
abbrev pub IsGotPart : Address → List LogEntry → Type 0
IsGotPart a part = (part ≡ []) ⊎ IsGot a part

-- what there is of a turn that was refused, before it or among the sends
abbrev pub IsTurnPart : Address → List LogEntry → Type 0
IsTurnPart a part = (part ≡ []) ⊎ IsTurn a part

-- what there is of a look that was refused
abbrev pub IsLookPart : Address → List LogEntry → Type 0
IsLookPart a part = (count : ℕ) × (count ≤ 64) × Gots a count part

-- a part of this form for each of these ends, in order
abbrev pub EachEnd : (Address → List LogEntry → Type 0) → List Address → List LogEntry → Type 0
EachEnd Form [] part = part ≡ []
EachEnd Form (a ∷ places) part = (first : List LogEntry) × (rest : List LogEntry) × (part ≡ first ++ rest) × Form a first × EachEnd Form places rest

-- the same, stopped at one of them
abbrev pub EachPart : (Address → List LogEntry → Type 0) → (Address → List LogEntry → Type 0) → List Address → List LogEntry → Type 0
EachPart Form Cut [] part = ⊥
EachPart Form Cut (a ∷ places) part = Cut a part ⊎ ((first : List LogEntry) × (rest : List LogEntry) × (part ≡ first ++ rest) × Form a first × EachPart Form Cut places rest)

-- a part of this form for the first end, if there is one
abbrev pub IfFirst : (Address → List LogEntry → Type 0) → Option Rules → List LogEntry → Type 0
IfFirst Form None part = part ≡ []
IfFirst Form (Some rules) part = Form rules.place part

-- where the ends of these rules are found
abbrev pub places_of : List Rules → List Address
places_of all = map (λ (rules : Rules). rules.place) all

-- the hosted ends in order, the master's first
abbrev pub hosted : Option Rules → List Rules → List Rules
hosted None slaves = slaves
hosted (Some master) slaves = master ∷ slaves

-- the master is hosted and has its report after this log
abbrev pub has_report : Option Rules → List LogEntry → Bool
has_report None log = false
has_report (Some master) log = master.over (events_at master.place log)

-- the first part of a round: a look at each end
pub record IsLooks (master : Option Rules) (slaves : List Rules) (part : List LogEntry) : Type 0 where
  pub first : List LogEntry
  pub rest : List LogEntry
  pub form : part ≡ first ++ rest
  pub own : IfFirst IsLook master first
  pub others : EachEnd IsLook (places_of slaves) rest

-- the second part after this log: a turn of each end, but of none after the master's where that gave its report
pub record IsTurns (master : Option Rules) (slaves : List Rules) (log part : List LogEntry) : Type 0 where
  pub first : List LogEntry
  pub rest : List LogEntry
  pub form : part ≡ first ++ rest
  pub own : IfFirst IsTurn master first
  pub others : MatchBool (has_report master (log ++ first)) (rest ≡ []) (EachEnd IsTurn (places_of slaves) rest)

-- a round after this log: the looks and then the turns
pub record IsRound (master : Option Rules) (slaves : List Rules) (log part : List LogEntry) : Type 0 where
  pub looks : List LogEntry
  pub turns : List LogEntry
  pub form : part ≡ looks ++ turns
  pub looked : IsLooks master slaves looks
  pub turned : IsTurns master slaves (log ++ looks) turns

-- the first part, stopped at one of the ends
pub record IsLooksPart (master : Option Rules) (slaves : List Rules) (part : List LogEntry) : Type 0 where
  pub first : List LogEntry
  pub rest : List LogEntry
  pub form : part ≡ first ++ rest
  pub stop : (IfFirst IsLookPart master first × (rest ≡ [])) ⊎ (IfFirst IsLook master first × EachPart IsLook IsLookPart (places_of slaves) rest)

-- the second part, stopped at one of the ends
pub record IsTurnsPart (master : Option Rules) (slaves : List Rules) (log part : List LogEntry) : Type 0 where
  pub first : List LogEntry
  pub rest : List LogEntry
  pub form : part ≡ first ++ rest
  pub stop : (IfFirst IsTurnPart master first × (rest ≡ []))
      ⊎ (IfFirst IsTurn master first × (has_report master (log ++ first) ≡ false) × EachPart IsTurn IsTurnPart (places_of slaves) rest)

-- a round, stopped in one of its parts
pub record IsRoundPart (master : Option Rules) (slaves : List Rules) (log part : List LogEntry) : Type 0 where
  pub looks : List LogEntry
  pub turns : List LogEntry
  pub form : part ≡ looks ++ turns
  pub stop : (IsLooksPart master slaves looks × (turns ≡ [])) ⊎ (IsLooks master slaves looks × IsTurnsPart master slaves (log ++ looks) turns)

-- so many whole rounds
abbrev pub Rounds : Option Rules → List Rules → ℕ → List LogEntry → Type 0
Rounds master slaves zero log = log ≡ []
Rounds master slaves (suc n) log = (before : List LogEntry) × (part : List LogEntry) × (log ≡ before ++ part) × Rounds master slaves n before × IsRound master slaves before part
