-- One slave's step, against what it shows by the definition.
use Rattle.std.proofs.Common.{◌≡◌, ℕ, zero, suc, ◌+◌, ◌-◌, ◌*◌, ◌≤◌, ◌<◌, Bool, true, false, ◌==◌, ◌&&◌, List, [], ◌∷◌, length, take, map, get_or, refl, sym, ◌∙◌, ap, subst, arith, ℤ, Option, Some, None, slice_get, Result, Ok, Err}
use Rattle.std.specs.Prelude.{All, IfSome}
use Rattle.std.specs.List.{range_with_len}
use Rattle.std.proofs.lemmas.List.{length-map}
use Rattle.std.proofs.lemmas.List.Sums.{sum_by_more_le}
use Rattle.std.proofs.lemmas.List.Elements.{All-map, All-same}
use Rattle.std.proofs.lemmas.List.FromFn.{length-map-range_with_len}
use Rattle.std.proofs.lemmas.Option.{slice_get_within, get_or_from_slice_get}
use Rattle.dcp_types.specs.declared.fault_codes.FaultCode.{FaultCode}
use Rattle.fixed_models.specs.declared.kinds.Kind.{Kind}
use Rattle.fixed_models.specs.declared.kinds.Kind.TheVariants as kinds
use Rattle.fixed_models.specs.Kinds.{is_external, has_inputs, output_count, has_output_count}
use Rattle.fixed_models.specs.Steps.{model_step}
use Rattle.fixed_models.specs.Views.{moved, step_of}
use Rattle.slave_desc.specs.declared.descriptions.SlaveDesc.{SlaveDesc}
use Rattle.slave_desc.specs.Descriptions.{IsDesc, HasModel}
use Rattle.scenario.specs.declared.scenarios.Scenario.{Scenario}
use Rattle.scenario.specs.declared.scenarios.Wire.{Wire}
use Rattle.scenario.specs.declared.scenarios.Every.{Every}
use Rattle.scenario.specs.Lookups.{slave_at, outputs_at, outputs_in}
use Rattle.scenario.specs.Totals.{total_outputs}
use Rattle.scenario.specs.Sound.{IsWire, IsScenario}
use Rattle.lockstep.specs.declared.wiring.Feed.{Feed}
use Rattle.lockstep.specs.declared.parts.Part.{Part}
use Rattle.scenario.specs.Settings.{parameters}
use Rattle.scenario.specs.Wiring.{wire_into, every_between, q_of, interval, column}
use Rattle.lockstep.specs.Feeds.{fed, feed_of, feeds_of, IsFeed}
use Rattle.lockstep.specs.Lockstep.{row_index, read, inputs, state, model_state_after, shown, shown_at}
use Rattle.lockstep.specs.Parts.{types_of_outputs, shows, Reaches, Shows, Serves, PartStandsAt}
use Rattle.lockstep.proofs.Reading.{All-find, wire_is}

pub both_first : (a b : Bool) → (a && b) ≡ true → a ≡ true
both_first true b h = refl
both_first false b h = cc

pub both_second : (a b : Bool) → (a && b) ≡ true → b ≡ true
both_second true b h = h
both_second false b h = cc

pub same_count : (a b : ℕ) → (a == b) ≡ true → a ≡ b
same_count a b h = grind (arith)

-- a kind that is here has as many outputs as its model
kind_outputs : (kind : Kind) (n : ℕ) → is_external kind ≡ false → has_output_count kind n ≡ (n == output_count kind)
kind_outputs kinds.Const n here = refl
kind_outputs kinds.Ramp n here = refl
kind_outputs kinds.Counter n here = refl
kind_outputs kinds.Gain n here = refl
kind_outputs kinds.Sum n here = refl
kind_outputs kinds.Integrator n here = refl
kind_outputs kinds.Lag n here = refl
kind_outputs kinds.Delay n here = refl
kind_outputs kinds.Limiter n here = refl
kind_outputs kinds.Deadband n here = refl
kind_outputs kinds.Divider n here = refl
kind_outputs kinds.Oscillator n here = refl
kind_outputs kinds.Tank n here = refl
kind_outputs kinds.Switch n here = refl
kind_outputs kinds.External n here = cc

pub outputs_counted : (d : SlaveDesc) → IsDesc d → HasModel d → (length d.outputs == output_count d.kind) ≡ true
outputs_counted d desc here =
    sym (kind_outputs d.kind (length d.outputs) here) ∙ both_second (has_inputs d.kind (length d.inputs)) (has_output_count d.kind (length d.outputs)) desc.ports

length-feeds_of : (sc : Scenario) (s n : ℕ) → length (feeds_of sc s n) ≡ n
length-feeds_of sc s n = length-map-range_with_len (λ i. feed_of sc (wire_into sc.wires s i)) 0 n

pub ports_ok : (sc : Scenario) (rows : List (List ℤ)) (r k s : ℕ) (d : SlaveDesc) (p : Part) → PartStandsAt sc rows r k s d p → IsDesc d → has_inputs p.model.kind (length p.feeds.items) ≡ true
ports_ok sc rows r k s d p h desc =
    let n : length p.feeds.items ≡ length d.inputs = ap (λ (fs : List (Option Feed)). length fs) h.feeds ∙ length-feeds_of sc s (length d.inputs) in
    ap (λ (x : ℕ). has_inputs p.model.kind x) n
    ∙ ap (λ k. has_inputs k (length d.inputs)) h.kind
    ∙ both_first (has_inputs d.kind (length d.inputs)) (has_output_count d.kind (length d.outputs)) desc.ports

pub types_ok : (sc : Scenario) (rows : List (List ℤ)) (r k s : ℕ) (d : SlaveDesc) (p : Part) → PartStandsAt sc rows r k s d p → IsDesc d → HasModel d → length p.model.types ≡ output_count p.model.kind
types_ok sc rows r k s d p h desc here =
    ap (λ ts. length ts) h.types ∙ length-map d.outputs (λ p. p.kind)
    ∙ same_count (length d.outputs) (output_count d.kind) (outputs_counted d desc here)
    ∙ ap (λ k. output_count k) (sym h.kind)

q_is : (o : Option Every) → IfSome o (λ e. 1 ≤ e.q) → 0 < q_of o
q_is None h = omega arith
q_is (Some e) h = omega (arith, h)

interval_is : (sc : Scenario) (a b : ℕ) → IsScenario sc → 0 < interval sc.every a b
interval_is sc a b sound =
    q_is (every_between sc.every a b)
    (All-find (λ e. 1 ≤ e.q) (λ e. (e.from == a) && (e.to == b)) sc.every (λ k d lt. (sound.every k d lt).q.0))

column_found : (slaves : List SlaveDesc) (n o : ℕ) (x : Option SlaveDesc) → slice_get slaves n ≡ x → o < length (outputs_in x) → total_outputs (take n slaves) + o < total_outputs slaves
column_found slaves n o None e h = absurd (omega (arith, h))
column_found slaves n o (Some d) e h =
    let lt : n < length slaves = slice_get_within slaves n d e in
    let is : get_or slaves n d ≡ d = get_or_from_slice_get slaves n d d e in
    let le = sum_by_more_le (λ (x : SlaveDesc). length x.outputs) slaves n d lt in
    let here : length (get_or slaves n d).outputs ≡ length d.outputs = ap (λ (x : SlaveDesc). length x.outputs) is in
    omega (arith, le, here, h)

column_is : (slaves : List SlaveDesc) (s o : ℕ) → 1 ≤ s → o < length (outputs_at slaves s) → column slaves s o < total_outputs slaves
column_is slaves zero o h lt = absurd (omega (arith, h))
column_is slaves (suc n) o h lt =
    let at : slave_at slaves (suc n) ≡ slice_get slaves (suc n - 1) = grind arith in
    let found : o < length (outputs_in (slice_get slaves (suc n - 1))) = subst (λ (x : Option SlaveDesc). o < length (outputs_in x)) at lt in
    column_found slaves (suc n - 1) o (slice_get slaves (suc n - 1)) refl found

feed_is : (sc : Scenario) (o : Option Wire) → IsScenario sc → IfSome o (λ w. IsWire sc.slaves w) → IsFeed (total_outputs sc.slaves) (feed_of sc o)
feed_is sc None sound h = tt
feed_is sc (Some w) sound h = (interval_is sc w.from w.to sound, column_is sc.slaves w.from w.out h.from.0 h.out)

pub feeds_ok : (sc : Scenario) (s n width : ℕ) (feeds : List (Option Feed)) → IsScenario sc → width ≡ total_outputs sc.slaves → feeds ≡ feeds_of sc s n → All (IsFeed width) feeds
feeds_ok sc s n width feeds sound w e =
    let ours : All (IsFeed (total_outputs sc.slaves)) feeds =
    All-same (IsFeed (total_outputs sc.slaves)) feeds (feeds_of sc s n) e
    (All-map (IsFeed (total_outputs sc.slaves)) (λ i. feed_of sc (wire_into sc.wires s i)) (range_with_len 0 n)
    (λ k d lt. feed_is sc (wire_into sc.wires s (get_or (range_with_len 0 n) k d)) sound (wire_is sc s (get_or (range_with_len 0 n) k d) sound))) in
    subst (λ (x : ℕ). All (IsFeed x) feeds) (sym w) ours

read_fed : (sc : Scenario) (rows : List (List ℤ)) (r k : ℕ) (o : Option Wire) → read sc rows r k o ≡ fed rows ((r - 1) * (sc.steps + 1)) k (feed_of sc o)
read_fed sc rows r k None = refl
read_fed sc rows r k (Some w) = refl

map-map_agree : {A B C : Type 0} (f : A → B) (g : B → C) (h : A → C) → ((x : A) → h x ≡ g (f x)) → (xs : List A) → map h xs ≡ map g (map f xs)
map-map_agree f g h e [] = refl
map-map_agree f g h e (x ∷ xs) = let here = e x in let rest = map-map_agree f g h e xs in cc

-- what the feeds give is what the inputs read
inputs_fed : (sc : Scenario) (rows : List (List ℤ)) (s : ℕ) (d : SlaveDesc) (r k : ℕ) → inputs sc rows s d r k ≡ map (fed rows ((r - 1) * (sc.steps + 1)) k) (feeds_of sc s (length d.inputs))
inputs_fed sc rows s d r k =
    map-map_agree (λ i. feed_of sc (wire_into sc.wires s i)) (fed rows ((r - 1) * (sc.steps + 1)) k) (λ i. read sc rows r k (wire_into sc.wires s i))
    (λ i. read_fed sc rows r k (wire_into sc.wires s i)) (range_with_len 0 (length d.inputs))

-- a step of the definition is a step of the model
step_same : (sc : Scenario) (rows : List (List ℤ)) (r k s : ℕ) (d : SlaveDesc) (p : Part) → length rows ≡ row_index sc.steps r (suc k) → PartStandsAt sc rows r k s d p →
    state sc rows s d r (suc k) ≡ step_of p.model (map (fed rows (length rows - suc k) k) p.feeds.items) sc.micro
step_same sc rows r k s d p at h =
    let first : length rows - suc k ≡ (r - 1) * (sc.steps + 1) = omega (arith, at) in
    let us : inputs sc rows s d r k ≡ map (fed rows (length rows - suc k) k) p.feeds.items =
    inputs_fed sc rows s d r k
    ∙ ap (λ (x : ℕ). map (fed rows x k) (feeds_of sc s (length d.inputs))) (sym first)
    ∙ ap (λ (fs : List (Option Feed)). map (fed rows (length rows - suc k) k) fs) (sym h.feeds) in
    ap (λ (x : Result (List ℤ) FaultCode). model_state_after sc rows s d r k x) h.state
    ∙ ap (λ (x : List ℤ). model_step d.kind (parameters sc s d r) (types_of_outputs d) p.model.state x sc.micro) us
    ∙ ap (λ k'. model_step k' (parameters sc s d r) (types_of_outputs d) p.model.state (map (fed rows (length rows - suc k) k) p.feeds.items) sc.micro) (sym h.kind)
    ∙ ap (λ (x : List ℤ). model_step p.model.kind x (types_of_outputs d) p.model.state (map (fed rows (length rows - suc k) k) p.feeds.items) sc.micro) (sym h.parameters)
    ∙ ap (λ x. model_step p.model.kind p.model.parameters x p.model.state (map (fed rows (length rows - suc k) k) p.feeds.items) sc.micro) (sym h.types)

stands_before : (sc : Scenario) (rows : List (List ℤ)) (r k s : ℕ) (d : SlaveDesc) (p : Part) → PartStandsAt sc rows r (suc k - 1) s d p → PartStandsAt sc rows r k s d p
stands_before sc rows r k s d p h = let e : suc k - 1 ≡ k = omega arith in subst (λ (x : ℕ). PartStandsAt sc rows r x s d p) e h

pub reach_err : (sc : Scenario) (rows : List (List ℤ)) (r k s : ℕ) (d : SlaveDesc) (old new : Part) (code : FaultCode) → length rows ≡ row_index sc.steps r k → PartStandsAt sc rows r (k - 1) s d old → Reaches rows old new k sc.micro (Err code) → shown sc rows s d r k ≡ Err code
reach_err sc rows r zero s d old new code at h reached = absurd reached
reach_err sc rows r (suc k) s d old new code at h reached =
    let e = step_same sc rows r k s d old at (stands_before sc rows r k s d old h) in
    ap (λ (x : Result (List ℤ) FaultCode). shown_at sc s d r x) (e ∙ reached)

stands_moved : (sc : Scenario) (rows : List (List ℤ)) (r k s : ℕ) (d : SlaveDesc) (old new : Part) → length rows ≡ row_index sc.steps r (suc k) → PartStandsAt sc rows r k s d old →
    step_of old.model (map (fed rows (length rows - suc k) k) old.feeds.items) sc.micro ≡ Ok new.model.state → new ≡ record old { model = moved old.model new.model.state } → PartStandsAt sc rows r (suc k) s d new
stands_moved sc rows r k s d old new at h stepped is = record {
  kind = ap (λ (x : Part). x.model.kind) is ∙ h.kind;
  types = ap (λ (x : Part). x.model.types) is ∙ h.types;
  feeds = ap (λ (x : Part). x.feeds.items) is ∙ h.feeds;
  parameters = ap (λ (x : Part). x.model.parameters) is ∙ h.parameters;
  state = step_same sc rows r k s d old at h ∙ stepped;
}

pub reach_ok : (sc : Scenario) (rows : List (List ℤ)) (r k s : ℕ) (d : SlaveDesc) (old new : Part) (u : Unit) → length rows ≡ row_index sc.steps r k → PartStandsAt sc rows r (k - 1) s d old → Reaches rows old new k sc.micro (Ok u) → PartStandsAt sc rows r k s d new
reach_ok sc rows r zero s d old new u at h reached = subst (λ (x : Part). PartStandsAt sc rows r 0 s d x) (sym reached) h
reach_ok sc rows r (suc k) s d old new u at h reached = stands_moved sc rows r k s d old new at (stands_before sc rows r k s d old h) reached.0 reached.1

-- what the model shows is what the definition shows
shown_same : (sc : Scenario) (rows : List (List ℤ)) (r k s : ℕ) (d : SlaveDesc) (p : Part) → PartStandsAt sc rows r k s d p → shown sc rows s d r k ≡ shows p.model
shown_same sc rows r k s d p h =
    ap (λ (x : Result (List ℤ) FaultCode). shown_at sc s d r x) h.state
    ∙ ap (λ k'. shows (record { kind = k'; parameters = parameters sc s d r; types = types_of_outputs d; state = p.model.state; stepped = p.model.stepped })) (sym h.kind)
    ∙ ap (λ (x : List ℤ). shows (record { kind = p.model.kind; parameters = x; types = types_of_outputs d; state = p.model.state; stepped = p.model.stepped })) (sym h.parameters)
    ∙ ap (λ x. shows (record { kind = p.model.kind; parameters = p.model.parameters; types = x; state = p.model.state; stepped = p.model.stepped })) (sym h.types)

pub serves : (sc : Scenario) (rows : List (List ℤ)) (r k s : ℕ) (d : SlaveDesc) (before after : List ℤ) (p : Part) → PartStandsAt sc rows r k s d p → (x : Result Unit FaultCode) → Shows p.model before after x → Serves sc rows r k s d before after p x
serves sc rows r k s d before after p h (Ok u) given = (given.0, shown_same sc rows r k s d p h ∙ given.1, given.2, h)
serves sc rows r k s d before after p h (Err code) given = shown_same sc rows r k s d p h ∙ given
