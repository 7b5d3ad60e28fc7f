-- The rows of a run, behind those of the runs before.
use Rattle.std.proofs.Common.{◌≡◌, ℕ, zero, suc, ◌+◌, ◌-◌, ◌*◌, ◌≤◌, ◌<◌, ◌⊎◌, inl, inr, List, [], ◌∷◌, ◌++◌, length, refl, sym, ◌∙◌, ap, subst, arith, ℤ, Some, None, slice_get, Ok}
use Rattle.std.specs.Prelude.{All}
use Rattle.std.proofs.lemmas.List.{length_push}
use Rattle.std.proofs.lemmas.List.Elements.{All-push, All-nil, All-head}
use Rattle.std.proofs.lemmas.List.Sums.{sum_by-cons}
use Rattle.fixed_models.specs.Domains.{IsInput}
use Rattle.slave_desc.specs.declared.descriptions.SlaveDesc.{SlaveDesc}
use Rattle.slave_desc.specs.Descriptions.{IsDesc}
use Rattle.scenario.specs.declared.scenarios.Scenario.{Scenario}
use Rattle.scenario.specs.Totals.{total_outputs}
use Rattle.lockstep.specs.declared.parts.Part.{Part}
use Rattle.lockstep.specs.declared.halts.Halt.{Halt}
use Rattle.lockstep.specs.declared.halts.Halt.TheVariants as halts
use Rattle.lockstep.specs.declared.references.RefFault.{RefFault}
use Rattle.lockstep.specs.Cut.{Grid, SameRows}
use Rattle.lockstep.specs.Lockstep.{row_index, row, IsMoment, IsReference, EachRow, EndsAt}
use Rattle.lockstep.specs.Parts.{PartStandsAt, AllStand, Halted}
use Rattle.lockstep.specs.Filling.{SoFar, StoppedGrid, StoppedBy}
use Rattle.lockstep.proofs.Agreement.{state-agree}
use Rattle.lockstep.proofs.Cuts.{grid_of}
use Rattle.lockstep.proofs.Existence.{agree_push, EachRow-push, row-moment}
use Rattle.lockstep.proofs.Filled.{row_is}

-- the first slaves of a run stand at its begin
pub record PartsSoFar (sc : Scenario) (r i : ℕ) (parts : List Part) : Type 0 where
  pub count : length parts ≡ i
  pub each : (rows : List (List ℤ)) (j : ℕ) (d : SlaveDesc) (p : Part) → slice_get sc.slaves j ≡ Some d → slice_get parts j ≡ Some p → PartStandsAt sc rows r 0 (j + 1) d p

-- the rows go as far as step k of run r, and the slaves stand before it
pub record Standing (sc : Scenario) (r k : ℕ) (g : Grid) (parts : List Part) : Type 0 where
  pub rows : SoFar sc ((r - 1) * (sc.steps + 1) + k) g
  pub stand : AllStand sc g.rows r (k - 1) parts

pub parts_none : (sc : Scenario) (r : ℕ) (parts : List Part) → parts ≡ [] → PartsSoFar sc r 0 parts
parts_none sc r parts e = record {
  count = ap (λ (x : List Part). length x) e;
  each = λ rows j d p at got. let none : None ≡ Some p = sym (ap (λ (x : List Part). slice_get x j) e) ∙ got in cc;
}

pushed : (xs : List Part) (y : Part) (j : ℕ) (p : Part) → slice_get (xs ++ y ∷ []) j ≡ Some p → (slice_get xs j ≡ Some p) ⊎ ((j ≡ length xs) × (y ≡ p))
pushed [] y zero p e = inr (refl, cc)
pushed [] y (suc j) p e = absurd (cc)
pushed (x ∷ xs) y zero p e = inl e
pushed (x ∷ xs) y (suc j) p e = elim (pushed xs y j p e) [ inl h ↦ inl h | inr h ↦ inr (ap suc h.0, h.1) ]

pub parts_more : (sc : Scenario) (r i : ℕ) (d : SlaveDesc) (parts more : List Part) (p : Part) → slice_get sc.slaves i ≡ Some d → PartsSoFar sc r i parts →
    ((rows : List (List ℤ)) → PartStandsAt sc rows r 0 (i + 1) d p) → more ≡ parts ++ p ∷ [] → PartsSoFar sc r (i + 1) more
parts_more sc r i d parts more p at h stands e = record {
  count = ap (λ (x : List Part). length x) e ∙ length_push parts p ∙ ap (λ (n : ℕ). n + 1) h.count;
  each = λ rows j d' p' at' got.
      elim (pushed parts p j p' (sym (ap (λ (x : List Part). slice_get x j) e) ∙ got)) [
        | inl old ↦ h.each rows j d' p' at' old
        | inr new ↦
            let same : j ≡ i = new.0 ∙ h.count in
            let there : Some d ≡ Some d' = sym at ∙ ap (λ (n : ℕ). slice_get sc.slaves n) (sym same) ∙ at' in
            let desc : d ≡ d' = cc in
            subst (λ (x : Part). PartStandsAt sc rows r 0 (j + 1) d' x) new.1
            (subst (λ (x : SlaveDesc). PartStandsAt sc rows r 0 (j + 1) x p) desc
            (subst (λ (n : ℕ). PartStandsAt sc rows r 0 (n + 1) d p) (sym same) (stands rows)))
      ];
}

pub parts_all : (sc : Scenario) (r i : ℕ) (parts : List Part) → i ≡ length sc.slaves → PartsSoFar sc r i parts → (rows : List (List ℤ)) → AllStand sc rows r 0 parts
parts_all sc r i parts e h rows = record { count = h.count ∙ e; each = h.each rows }

pub standing_first : (sc : Scenario) (r : ℕ) (g : Grid) (parts : List Part) → SoFar sc ((r - 1) * (sc.steps + 1)) g → AllStand sc g.rows r 0 parts → Standing sc r 0 g parts
standing_first sc r g parts h stand = record {
  rows = subst (λ (n : ℕ). SoFar sc n g) (omega arith) h;
  stand = stand;
}

stands_on : (sc : Scenario) (rows : List (List ℤ)) (vs : List ℤ) (r k s : ℕ) (d : SlaveDesc) (p : Part) → row_index sc.steps r k ≤ length rows → PartStandsAt sc rows r k s d p → PartStandsAt sc (rows ++ vs ∷ []) r k s d p
stands_on sc rows vs r k s d p le h = record {
  kind = h.kind;
  types = h.types;
  feeds = h.feeds;
  parameters = h.parameters;
  state = state-agree sc (rows ++ vs ∷ []) rows s d r k (agree_push rows vs (row_index sc.steps r k) le) ∙ h.state;
}

-- the row that was begun is closed behind the others
closed : (g filled more : Grid) → SameRows g filled → more ≡ grid_of filled.width (filled.rows ++ filled.begun ∷ []) [] → more ≡ grid_of g.width (g.rows ++ filled.begun ∷ []) []
closed g filled more same e =
    e
    ∙ ap (λ (x : ℕ). grid_of x (filled.rows ++ filled.begun ∷ []) []) same.width
    ∙ ap (λ (x : List (List ℤ)). grid_of g.width (x ++ filled.begun ∷ []) []) same.rows

pub standing_more : (sc : Scenario) (r k : ℕ) (g filled more : Grid) (parts : List Part) → IsMoment sc r k → SoFar sc ((r - 1) * (sc.steps + 1) + k) g →
    row sc g.rows r k ≡ Ok filled.begun → AllStand sc g.rows r k parts → SameRows g filled → more ≡ grid_of filled.width (filled.rows ++ filled.begun ∷ []) [] → Standing sc r (k + 1) more parts
standing_more sc r k g filled more parts m h here stand same e =
    let vs = filled.begun in
    let values = row_is sc g.rows r k vs here in
    let P : Grid → Type 0 = λ x. Standing sc r (k + 1) x parts in
    let back : k + 1 - 1 ≡ k = omega arith in
    subst P (sym (closed g filled more same e)) (record {
      rows = record {
        width = h.width;
        begun = refl;
        count = length_push g.rows vs ∙ omega (arith, h.count);
        values = All-push (λ row. All IsInput row) g.rows vs h.values values.1;
        each = EachRow-push sc g.rows vs r k m h.count here h.each;
      };
      stand = record {
        count = stand.count;
        each = λ j d p at got. subst (λ (n : ℕ). PartStandsAt sc (g.rows ++ vs ∷ []) r n (j + 1) d p) (sym back) (stands_on sc g.rows vs r k (j + 1) d p (omega (arith, h.count)) (stand.each j d p at got));
      };
    })

pub row_width : (sc : Scenario) (r k : ℕ) (g filled : Grid) → g.width ≡ total_outputs sc.slaves → row sc g.rows r k ≡ Ok filled.begun → SameRows g filled → length filled.begun ≡ filled.width
row_width sc r k g filled w here same = (row_is sc g.rows r k filled.begun here).0 ∙ sym w ∙ sym same.width

run_end : (r w : ℕ) → 1 ≤ r → (r - 1) * w + w ≡ r * w
run_end r w h =
    let e : r ≡ r - 1 + 1 = omega arith in
    let step : (r - 1) * w + w ≡ (r - 1 + 1) * w = omega arith in
    step ∙ ap (λ (x : ℕ). x * w) (sym e)

pub run_done : (sc : Scenario) (r k : ℕ) (g : Grid) (parts : List Part) → 1 ≤ r → k ≡ sc.steps + 1 → Standing sc r k g parts → SoFar sc (r * (sc.steps + 1)) g
run_done sc r k g parts first e h =
    let same : (r - 1) * (sc.steps + 1) + k ≡ r * (sc.steps + 1) = ap (λ (x : ℕ). (r - 1) * (sc.steps + 1) + x) e ∙ run_end r (sc.steps + 1) first in
    subst (λ (n : ℕ). SoFar sc n g) same h.rows

stopped_same : (sc : Scenario) (g more : Grid) (fault : RefFault) → SameRows g more → StoppedGrid sc g fault → StoppedGrid sc more fault
stopped_same sc g more fault same h = record {
  each = subst (λ (x : List (List ℤ)). EachRow sc x) (sym same.rows) h.each;
  ends = subst (λ (x : List (List ℤ)). EndsAt sc x fault) (sym same.rows) h.ends;
}

pub halted : (sc : Scenario) (r k : ℕ) (g more : Grid) (h : Halt) → IsMoment sc r k → SoFar sc ((r - 1) * (sc.steps + 1) + k) g → SameRows g more → Halted (row sc g.rows r k) h → StoppedBy sc more h
halted sc r k g more halts.OutOfMemory m so_far same h = tt
halted sc r k g more (halts.Fault fault) m so_far same h =
    let moment = row-moment sc g.rows r k fault h in
    let run = moment.0 in
    let step = moment.1 in
    stopped_same sc g more fault same (record {
      each = so_far.each;
      ends = record {
        moment = subst (λ (x : ℕ). IsMoment sc x fault.step) (sym run) (subst (λ (x : ℕ). IsMoment sc r x) (sym step) m);
        behind = so_far.count ∙ ap (λ (x : ℕ). row_index sc.steps r x) (sym step) ∙ ap (λ (x : ℕ). row_index sc.steps x fault.step) (sym run);
        faults = ap (λ (x : ℕ). row sc g.rows x fault.step) run ∙ ap (λ (x : ℕ). row sc g.rows r x) step ∙ h;
      };
    })

pub some_outputs : (slaves : List SlaveDesc) → All (λ d. IsDesc d) slaves → 1 ≤ length slaves → 0 < total_outputs slaves
some_outputs [] h le = absurd (omega arith)
some_outputs (d ∷ ds) h le =
    let first = All-head (λ d. IsDesc d) d ds h in
    omega (arith, first.few_outputs.0, sum_by-cons (λ (x : SlaveDesc). length x.outputs) d ds)

pub none_yet : (sc : Scenario) (g : Grid) (width : ℕ) → width ≡ total_outputs sc.slaves → g ≡ grid_of width [] [] → SoFar sc 0 g
none_yet sc g width w e =
    subst (λ (x : Grid). SoFar sc 0 x) (sym e)
    (record { width = w; begun = refl; count = refl; values = All-nil (λ row. All IsInput row); each = λ r k m lt. absurd (omega arith) })

pub all_rows : (sc : Scenario) (g : Grid) (rows : List (List ℤ)) → rows ≡ g.rows → SoFar sc (sc.runs * (sc.steps + 1)) g → IsReference sc rows None
all_rows sc g rows e h = subst (λ (x : List (List ℤ)). IsReference sc x None) (sym e) (record { each = h.each; ends = h.count })

pub stopped_rows : (sc : Scenario) (g : Grid) (rows : List (List ℤ)) (fault : RefFault) → rows ≡ g.rows → StoppedGrid sc g fault → IsReference sc rows (Some fault)
stopped_rows sc g rows fault e h = subst (λ (x : List (List ℤ)). IsReference sc x (Some fault)) (sym e) (record { each = h.each; ends = h.ends })
