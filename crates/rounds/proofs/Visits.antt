-- A visit of one end among several.
use Rattle.std.proofs.Common.{◌≡◌, ◌≢◌, ℕ, ◌+◌, ◌<◌, List, [], ◌++◌, length, map, take, set, get_or, false, Option, ap, sym, ◌∙◌}
use Rattle.std.proofs.Math.ListN.{get_or-map}
use Rattle.std.proofs.lemmas.List.{length-map}
use Rattle.std.specs.List.{All}
use Rattle.dcp_types.specs.declared.addresses.Address.{Address}
use Rattle.dcp_ends.specs.declared.entries.LogEntry.{LogEntry}
use Rattle.dcp_ends.specs.Events.{Event, Send, Rules}
use Rattle.dcp_ends.specs.Logs.{same_address}
use Rattle.rounds.specs.Rounds.{EachEnd, EachPart, places_of}
use Rattle.rounds.specs.Steps.{AddsPart}
use Rattle.rounds.specs.Told.{IsTold, IsToldUpTo, Apart, AllTold, AllToldUpTo}
use Rattle.rounds.proofs.Parts.{Added-join}
use Rattle.rounds.proofs.Logs.{IsCut-told}
use Rattle.rounds.proofs.Others.{Silent, IsTold-silent, All-visited, other_places, Each-more, EachPart-here}

abbrev pub IsSilent : (Address → List LogEntry → Type 0) → Type 0
IsSilent Form = (a b : Address) → same_address a b ≡ false → (part : List LogEntry) → Form b part → Silent a part

module _ {E N : Type 0} (stands : E → List Event → Type 0) (rules : E → Rules) (calls : N → Option (List LogEntry)) (first ends : List E) (i : ℕ) (w y : E)
    (here : i < length ends) (same : map rules ends ≡ map rules first) (apart : Apart (map rules first)) (same_one : rules y ≡ rules (get_or ends i w))
    (a b c : N) (l m n : List LogEntry) where
  far : (k : ℕ) (d : E) → k < length ends → k ≢ i → same_address (rules (get_or ends k d)).place (rules (get_or ends i w)).place ≡ false
  far = other_places rules ends i w y here (rw same apart)

  pub visited_told : (Form : Address → List LogEntry → Type 0) → IsSilent Form → AllTold stands rules ends m → IsTold stands (rules (get_or ends i w)) y n → AddsPart calls (Form (rules (get_or ends i w)).place) b c m n → AllTold stands rules (set ends i y) n
  visited_told Form silent all told part =
      All-visited rules ends i w y here (λ end. IsTold stands (rules end) end m) (λ end. IsTold stands (rules end) end n)
      (rw same_one told)
      (λ k d lt ne before. rw part.added.log (IsTold-silent stands _ _ m part.part (silent _ _ (far k d lt ne) part.part part.form) before)) all

  pub visited_cut : (Cut : Address → List LogEntry → Type 0) → IsSilent Cut → AllTold stands rules ends m → IsToldUpTo stands (rules (get_or ends i w)) y n → AddsPart calls (Cut (rules (get_or ends i w)).place) b c m n → AllToldUpTo stands rules (set ends i y) n
  visited_cut Cut silent all cut part =
      All-visited rules ends i w y here (λ end. IsTold stands (rules end) end m) (λ end. IsToldUpTo stands (rules end) end n)
      (rw same_one cut)
      (λ k d lt ne before. rw part.added.log (IsCut-told stands _ _ _ (IsTold-silent stands _ _ m part.part (silent _ _ (far k d lt ne) part.part part.form) before))) all

  pub visited_quiet : (outs : E → List Send) → All (λ end. outs end ≡ []) ends → outs y ≡ [] → All (λ end. outs end ≡ []) (set ends i y)
  visited_quiet outs all quiet = All-visited rules ends i w y here (λ end. outs end ≡ []) (λ end. outs end ≡ []) quiet (λ k d lt ne before. before) all

  place_here : get_or (places_of (map rules first)) i (rules w).place ≡ (rules (get_or ends i w)).place
  place_here =
      get_or-map (λ (r : Rules). r.place) (map rules first) i (rules w) ∙ ap (λ (r : Rules). r.place) (ap (λ (all : List Rules). get_or all i (rules w)) (sym same) ∙ get_or-map rules ends i w)

  within : i < length (places_of (map rules first))
  within = rw (length-map, ← same, length-map) here

  pub visited_each : (Form : Address → List LogEntry → Type 0) → AddsPart calls (EachEnd Form (take i (places_of (map rules first)))) a b l m → AddsPart calls (Form (rules (get_or ends i w)).place) b c m n
      → AddsPart calls (EachEnd Form (take (i + 1) (places_of (map rules first)))) a c l n
  visited_each Form so_far part = record {
    part = so_far.part ++ part.part;
    form = Each-more Form Form (places_of (map rules first)) i (rules w).place so_far.part part.part within so_far.form (rw place_here part.form);
    added = Added-join calls a b c l m n so_far.part part.part so_far.added part.added;
  }

  pub visited_part : (Form Cut : Address → List LogEntry → Type 0) → AddsPart calls (EachEnd Form (take i (places_of (map rules first)))) a b l m → AddsPart calls (Cut (rules (get_or ends i w)).place) b c m n
      → AddsPart calls (EachPart Form Cut (places_of (map rules first))) a c l n
  visited_part Form Cut so_far part = record {
    part = so_far.part ++ part.part;
    form = EachPart-here Form Cut (places_of (map rules first)) i (rules w).place so_far.part part.part within so_far.form (rw place_here part.form);
    added = Added-join calls a b c l m n so_far.part part.part so_far.added part.added;
  }
