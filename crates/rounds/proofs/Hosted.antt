-- The master's end beside the slaves'.
use Rattle.std.proofs.Common.{◌≡◌, ℕ, ◌<◌, List, [], ◌∷◌, ◌++◌, length, map, get_or, true, false, Option, None, Some, IfSome, refl, ap, sym, inl, inr, arith, suc}
use Rattle.std.proofs.Math.ListN.{get_or-map}
use Rattle.std.proofs.lemmas.List.{append-nil, length-map}
use Rattle.std.specs.Option.{option_map}
use Rattle.dcp_types.specs.declared.addresses.Address.{Address}
use Rattle.dcp_ends.specs.declared.entries.LogEntry.{LogEntry}
use Rattle.dcp_ends.specs.Events.{Event, Rules}
use Rattle.dcp_ends.specs.Logs.{same_address}
use Rattle.rounds.specs.Rounds.{EachEnd, EachPart, IfFirst, IsLook, IsLookPart, IsTurn, IsTurnPart, IsLooks, IsLooksPart, IsTurns, IsTurnsPart, IsRound, IsRoundPart, hosted, has_report, places_of}
use Rattle.rounds.specs.Steps.{AddsPart}
use Rattle.rounds.specs.Told.{IsTold, IsToldUpTo, Apart, AllTold, AllToldUpTo}
use Rattle.rounds.proofs.Parts.{Added-join}
use Rattle.rounds.proofs.Logs.{IsCut-told}
use Rattle.rounds.proofs.Others.{Silent, Silent-nil, Silent-append, IsTold-silent, Silent-events}
use Rattle.rounds.proofs.Visits.{IsSilent}

pub Apart-rest : (master : Option Rules) (slaves : List Rules) → Apart (hosted master slaves) → Apart slaves
Apart-rest None slaves apart = apart
Apart-rest (Some m) slaves apart = λ j k d lj lk ne. apart (suc j) (suc k) d (omega arith) (omega arith) (omega arith)

-- a part of ends that are all elsewhere
module _ (Form : Address → List LogEntry → Type 0) (silent : IsSilent Form) (a : Address) where
  pub Each-silent : (slaves : List Rules) (p : List LogEntry) → ((k : ℕ) (d : Rules) → k < length slaves → same_address a (get_or slaves k d).place ≡ false) → EachEnd Form (places_of slaves) p → Silent a p
  Each-silent [] p far none = rw none (Silent-nil a)
  Each-silent (r ∷ slaves) p far each =
      rw each.2 (Silent-append a each.0 each.1 (silent a r.place (far 0 r (omega arith)) each.0 each.3)
      (Each-silent slaves each.1 (λ k d lt. far (suc k) d (omega arith)) each.4))

  pub EachPart-silent : (Cut : Address → List LogEntry → Type 0) (cut_silent : IsSilent Cut) (slaves : List Rules) (p : List LogEntry)
      → ((k : ℕ) (d : Rules) → k < length slaves → same_address a (get_or slaves k d).place ≡ false) → EachPart Form Cut (places_of slaves) p → Silent a p
  EachPart-silent Cut cut_silent [] p far none = absurd none
  EachPart-silent Cut cut_silent (r ∷ slaves) p far (inl cut) = cut_silent a r.place (far 0 r (omega arith)) p cut
  EachPart-silent Cut cut_silent (r ∷ slaves) p far (inr each) =
      rw each.2 (Silent-append a each.0 each.1 (silent a r.place (far 0 r (omega arith)) each.0 each.3)
      (EachPart-silent Cut cut_silent slaves each.1 (λ k d lt. far (suc k) d (omega arith)) each.4))

module _ {E : Type 0} (stands : E → List Event → Type 0) (rules : E → Rules) (slaves : List E) (log : List LogEntry) where
  pub AllCut-told : AllTold stands rules slaves log → AllToldUpTo stands rules slaves log
  AllCut-told all = λ k d lt. IsCut-told stands _ _ log (all k d lt)

  -- what the master's end does tells nothing of the slaves
  pub slaves_told : (Form : Address → List LogEntry → Type 0) → IsSilent Form → (master : Option Rules) (p : List LogEntry) → Apart (hosted master (map rules slaves)) → IfFirst Form master p
      → AllTold stands rules slaves log → AllTold stands rules slaves (log ++ p)
  slaves_told Form silent None p apart none all = rw (none, append-nil) all
  slaves_told Form silent (Some m) p apart form all =
      λ k d lt.
      let far : same_address (get_or (map rules slaves) k (rules d)).place m.place ≡ false = apart (suc k) 0 (rules d) (rw length-map (omega arith)) (omega arith) (omega arith) in
      IsTold-silent stands _ _ log p (silent _ m.place (rw (get_or-map rules slaves k d) at far) p form) (all k d lt)

module _ {E : Type 0} (stands : E → List Event → Type 0) (rules : E → Rules) (log : List LogEntry) where
  pub first_cut : (master : Option E) → IfSome master (λ end. IsTold stands (rules end) end log) → IfSome master (λ end. IsToldUpTo stands (rules end) end log)
  first_cut None told = told
  first_cut (Some end) told = IsCut-told stands _ end log told

  -- what the slaves do tells nothing of the master's end
  pub first_told : (Form : Address → List LogEntry → Type 0) → IsSilent Form → (master : Option E) (slaves : List Rules) (p : List LogEntry) → Apart (hosted (option_map rules master) slaves)
      → EachEnd Form (places_of slaves) p → IfSome master (λ end. IsTold stands (rules end) end log) → IfSome master (λ end. IsTold stands (rules end) end (log ++ p))
  first_told Form silent None slaves p apart each told = told
  first_told Form silent (Some end) slaves p apart each told =
      IsTold-silent stands _ end log p (Each-silent Form silent _ slaves p (λ k d lt. apart 0 (suc k) d (omega arith) (omega arith) (omega arith)) each) told

  pub first_told_part : (Form : Address → List LogEntry → Type 0) → IsSilent Form → (Cut : Address → List LogEntry → Type 0) → IsSilent Cut → (master : Option E) (slaves : List Rules) (p : List LogEntry)
      → Apart (hosted (option_map rules master) slaves) → EachPart Form Cut (places_of slaves) p
      → IfSome master (λ end. IsTold stands (rules end) end log) → IfSome master (λ end. IsTold stands (rules end) end (log ++ p))
  first_told_part Form silent Cut cut_silent None slaves p apart each told = told
  first_told_part Form silent Cut cut_silent (Some end) slaves p apart each told =
      IsTold-silent stands _ end log p (EachPart-silent Form silent _ Cut cut_silent slaves p (λ k d lt. apart 0 (suc k) d (omega arith) (omega arith) (omega arith)) each) told

module _ {N : Type 0} (calls : N → Option (List LogEntry)) (master : Option Rules) (slaves : List Rules) (a b c : N) (l m n : List LogEntry) where
  pub looks_all : AddsPart calls (IfFirst IsLook master) a b l m → AddsPart calls (EachEnd IsLook (places_of slaves)) b c m n → AddsPart calls (IsLooks master slaves) a c l n
  looks_all f s = record {
    part = f.part ++ s.part;
    form = record { first = f.part; rest = s.part; form = refl; own = f.form; others = s.form };
    added = Added-join calls a b c l m n f.part s.part f.added s.added;
  }

  pub looks_stopped : AddsPart calls (IfFirst IsLook master) a b l m → AddsPart calls (EachPart IsLook IsLookPart (places_of slaves)) b c m n → AddsPart calls (IsLooksPart master slaves) a c l n
  looks_stopped f s = record {
    part = f.part ++ s.part;
    form = record { first = f.part; rest = s.part; form = refl; stop = inr (f.form, s.form) };
    added = Added-join calls a b c l m n f.part s.part f.added s.added;
  }

pub looks_stopped_first : {N : Type 0} (calls : N → Option (List LogEntry)) (master : Option Rules) (slaves : List Rules) (a b : N) (l m : List LogEntry)
    → AddsPart calls (IfFirst IsLookPart master) a b l m → AddsPart calls (IsLooksPart master slaves) a b l m
looks_stopped_first calls master slaves a b l m f = record {
  part = f.part;
  form = record { first = f.part; rest = []; form = sym (append-nil f.part); stop = inl (f.form, refl) };
  added = f.added;
}

module _ (master : Option Rules) (log : List LogEntry) where
  pub has_report-others : (Form : Address → List LogEntry → Type 0) → IsSilent Form → (slaves : List Rules) (p : List LogEntry) → Apart (hosted master slaves) → EachEnd Form (places_of slaves) p
      → has_report master (log ++ p) ≡ has_report master log
  has_report-others Form silent slaves p apart each = of_master master apart where
    of_master : (m : Option Rules) → Apart (hosted m slaves) → has_report m (log ++ p) ≡ has_report m log
    of_master None apart = refl
    of_master (Some m) apart = ap m.over (Silent-events m.place log p (Each-silent Form silent m.place slaves p (λ k d lt. apart 0 (suc k) d (omega arith) (omega arith) (omega arith)) each))

module _ {N : Type 0} (calls : N → Option (List LogEntry)) (master : Option Rules) (slaves : List Rules) (a b : N) (l m : List LogEntry) where
  pub turns_reported : has_report master m ≡ true → AddsPart calls (IfFirst IsTurn master) a b l m → AddsPart calls (IsTurns master slaves l) a b l m
  turns_reported report f = record {
    part = f.part;
    form = record { first = f.part; rest = []; form = sym (append-nil f.part); own = f.form; others = rw (← f.added.log, report) refl };
    added = f.added;
  }

  pub turns_stopped_first : AddsPart calls (IfFirst IsTurnPart master) a b l m → AddsPart calls (IsTurnsPart master slaves l) a b l m
  turns_stopped_first f = record {
    part = f.part;
    form = record { first = f.part; rest = []; form = sym (append-nil f.part); stop = inl (f.form, refl) };
    added = f.added;
  }

  module _ (c : N) (n : List LogEntry) (report : has_report master m ≡ false) (f : AddsPart calls (IfFirst IsTurn master) a b l m) where
    pub turns_all : AddsPart calls (EachEnd IsTurn (places_of slaves)) b c m n → AddsPart calls (IsTurns master slaves l) a c l n
    turns_all s = record {
      part = f.part ++ s.part;
      form = record { first = f.part; rest = s.part; form = refl; own = f.form; others = rw (← f.added.log, report) s.form };
      added = Added-join calls a b c l m n f.part s.part f.added s.added;
    }

    pub turns_stopped : AddsPart calls (EachPart IsTurn IsTurnPart (places_of slaves)) b c m n → AddsPart calls (IsTurnsPart master slaves l) a c l n
    turns_stopped s = record {
      part = f.part ++ s.part;
      form = record { first = f.part; rest = s.part; form = refl; stop = inr (f.form, rw (← f.added.log) report, s.form) };
      added = Added-join calls a b c l m n f.part s.part f.added s.added;
    }

module _ {N : Type 0} (calls : N → Option (List LogEntry)) (master : Option Rules) (slaves : List Rules) (a b c : N) (l m n : List LogEntry) where
  pub round_all : AddsPart calls (IsLooks master slaves) a b l m → AddsPart calls (IsTurns master slaves m) b c m n → AddsPart calls (IsRound master slaves l) a c l n
  round_all f s = record {
    part = f.part ++ s.part;
    form = record { looks = f.part; turns = s.part; form = refl; looked = f.form; turned = rw (← f.added.log) s.form };
    added = Added-join calls a b c l m n f.part s.part f.added s.added;
  }

  pub round_stopped : AddsPart calls (IsLooks master slaves) a b l m → AddsPart calls (IsTurnsPart master slaves m) b c m n → AddsPart calls (IsRoundPart master slaves l) a c l n
  round_stopped f s = record {
    part = f.part ++ s.part;
    form = record { looks = f.part; turns = s.part; form = refl; stop = inr (f.form, rw (← f.added.log) s.form) };
    added = Added-join calls a b c l m n f.part s.part f.added s.added;
  }

pub round_stopped_first : {N : Type 0} (calls : N → Option (List LogEntry)) (master : Option Rules) (slaves : List Rules) (a b : N) (l m : List LogEntry)
    → AddsPart calls (IsLooksPart master slaves) a b l m → AddsPart calls (IsRoundPart master slaves l) a b l m
round_stopped_first calls master slaves a b l m f = record {
  part = f.part;
  form = record { looks = f.part; turns = []; form = sym (append-nil f.part); stop = inl (f.form, refl) };
  added = f.added;
}
