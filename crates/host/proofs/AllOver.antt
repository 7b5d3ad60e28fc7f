-- Whether each slave is over.
use Rattle.std.proofs.Common.{◌≡◌, ℕ, ◌+◌, ◌<◌, List, length, map, take, get_or, Bool, true, false, ap, sym, ◌∙◌, subst}
use Rattle.std.proofs.Math.ListN.{get_or-map}
use Rattle.std.proofs.lemmas.List.{length-map}
use Rattle.std.proofs.lemmas.List.Folds.{list_all_at, list_all_more}
use Rattle.std.specs.List.{list_all}
use Rattle.dcp_ends.specs.declared.entries.LogEntry.{LogEntry}
use Rattle.dcp_ends.specs.Events.{Event, Rules}
use Rattle.rounds.specs.Told.{AllTold}
use Rattle.host.specs.Views.{rules_are_over}

module _ {E : Type 0} (stands : E → List Event → Type 0) (rules : E → Rules) where
  module _ (ends : List E) (i : ℕ) (d : E) (here : i < length ends) (over : Bool)
      (says : (events : List Event) → stands (get_or ends i d) events → over ≡ (rules (get_or ends i d)).over events)
      (log : List LogEntry) (told : AllTold stands rules ends log) where
    over_here : over ≡ rules_are_over log (get_or (map rules ends) i (rules d))
    over_here = says _ (told i d here).stands_for ∙ ap (rules_are_over log) (sym (get_or-map rules ends i d))

    within : i < length (map rules ends)
    within = rw length-map here

    pub not_all_over : over ≡ false → false ≡ list_all (rules_are_over log) (map rules ends)
    not_all_over is_not = sym (list_all_at (rules_are_over log) (map rules ends) i (rules d) within (sym over_here ∙ is_not))

    pub more_over : over ≡ true → list_all (rules_are_over log) (take i (map rules ends)) ≡ true → list_all (rules_are_over log) (take (i + 1) (map rules ends)) ≡ true
    more_over is so_far = rw (list_all_more (rules_are_over log) (map rules ends) i (rules d) within, so_far, ← over_here) is

  -- the end that was read there
  pub at_read : (ends : List E) (i : ℕ) (d : E) (over : Bool) → d ≡ get_or ends i d → ((events : List Event) → stands d events → over ≡ (rules d).over events)
      → (events : List Event) → stands (get_or ends i d) events → over ≡ (rules (get_or ends i d)).over events
  at_read ends i d over is says = subst (λ (e : E). (events : List Event) → stands e events → over ≡ (rules e).over events) is says
