-- The ports at the positions of a payload, at its sender and at its receiver.
use Rattle.std.proofs.Common.{◌≡◌, ◌≢◌, ℕ, zero, suc, ◌<◌, ◌==◌, Bool, true, false, if◌then◌else◌, List, [], ◌∷◌, length, map, Option, Some, None, refl, sym, ap, ◌∙◌, subst, arith, ℤ, pos}
use Rattle.std.specs.Prelude.{slice_get, slice_index_or, is_some, option_map}
use Rattle.std.specs.List.{AllByRecursion, cons_option, filter_map}
use Rattle.std.proofs.lemmas.Bool.{eq-eqb}
use Rattle.std.proofs.lemmas.Bool.Decides.{nat_tests}
use Rattle.std.proofs.lemmas.Option.{slice_get-map}
use Rattle.dcp_types.specs.Codes.{type_code}
use Rattle.dcp_types.proofs.OneToOne.{types_differ}
use Rattle.slave_desc.specs.Descriptions.{AreApart}
use Rattle.slave_desc.specs.declared.ports.Port.{Port}
use Rattle.slave_desc.specs.declared.descriptions.SlaveDesc.{SlaveDesc}
use Rattle.scenario.specs.declared.scenarios.Wire.{Wire}
use Rattle.scenario.specs.Lookups.{slave_at, inputs_in, outputs_in, inputs_at, outputs_at, code_in, type_at}
use Rattle.scenario.specs.Sound.{IsWire}
use Rattle.master_spec.specs.declared.pairs.Pair.{Pair}
use Rattle.master_spec.specs.Links.{is_wire}
use Rattle.slave_spec.specs.Refusals.{port_with}
use Rattle.slave_spec.specs.Payloads.{port_type, output_value}
use Rattle.plan_laws.proofs.Lists.{Pairwise, each_weaker}
use Rattle.plan_laws.proofs.Ports.{each_got, port_found, some_wire}
use Rattle.slave_laws.proofs.Wiring.InputLists.{chosen_at, got_some}

-- the inputs and the outputs at these positions
abbrev pub ports_into : List Port → List Pair → List Port
ports_into ports ps = filter_map (λ (p : Pair). slice_get ports p.to) ps

abbrev pub ports_out : List Port → List Pair → List Port
ports_out ports ps = filter_map (λ (p : Pair). slice_get ports p.from) ps

abbrev pub references : List Port → List ℕ
references ports = map (λ (q : Port). q.vr) ports

-- both ports of a position are there, and of one type
pub record IsJoined (ins outs : List Port) (p : Pair) : Type 0 where
  pub input : Port
  pub output : Port
  pub into : slice_get ins p.to ≡ Some input
  pub out : slice_get outs p.from ≡ Some output
  pub kinds : input.kind ≡ output.kind

pub joined : (slaves : List SlaveDesc) (wires : List Wire) (from to : ℕ) (a b : SlaveDesc) → AllByRecursion (λ (w : Wire). IsWire slaves w) wires → slave_at slaves from ≡ Some a → slave_at slaves to ≡ Some b
    → (p : Pair) → is_wire wires from to p ≡ true → IsJoined b.inputs a.outputs p
joined slaves wires from to a b all e f p h =
    let w = some_wire (λ (v : Wire). IsWire slaves v) wires from to p all h in
    let o : outputs_at slaves w.0.from ≡ a.outputs = ap (outputs_at slaves) w.2 ∙ ap outputs_in e in
    let i : inputs_at slaves w.0.to ≡ b.inputs = ap (inputs_at slaves) w.3 ∙ ap inputs_in f in
    let x = got_some a.outputs p.from (subst (λ (n : ℕ). n < length a.outputs) w.4 (subst (λ (l : List Port). w.0.out < length l) o w.1.out)) in
    let y = got_some b.inputs p.to (subst (λ (n : ℕ). n < length b.inputs) w.5 (subst (λ (l : List Port). w.0.into < length l) i w.1.into)) in
    let xs : type_at (outputs_at slaves w.0.from) w.0.out ≡ type_code x.0.kind = ap (λ l. type_at l w.0.out) o ∙ ap (type_at a.outputs) w.4 ∙ ap code_in x.1 in
    let ys : type_at (inputs_at slaves w.0.to) w.0.into ≡ type_code y.0.kind = ap (λ l. type_at l w.0.into) i ∙ ap (type_at b.inputs) w.5 ∙ ap code_in y.1 in
    record { input = y.0; output = x.0; into = y.1; out = x.1; kinds = (types_differ y.0.kind x.0.kind).0 (sym ys ∙ sym w.1.types ∙ xs) }

-- so a receiver cuts a payload by the types by which its sender made it
pub same_types : (ins outs : List Port) → AreApart ins → AreApart outs → (ps : List Pair) → AllByRecursion (IsJoined ins outs) ps
    → map (λ vr. port_type (port_with vr ins)) (references (ports_into ins ps)) ≡ map (λ vr. port_type (port_with vr outs)) (references (ports_out outs ps))
same_types ins outs a b [] h = refl
same_types ins outs a b (p ∷ ps) h =
    let j = h.0 in
    let left = ap (λ o. map (λ vr. port_type (port_with vr ins)) (references (cons_option o (ports_into ins ps)))) j.into in
    let right = ap (λ o. map (λ vr. port_type (port_with vr outs)) (references (cons_option o (ports_out outs ps)))) j.out in
    let one : port_type (port_with j.input.vr ins) ≡ port_type (port_with j.output.vr outs) = ap port_type (port_found ins p.to j.input a j.into) ∙ j.kinds ∙ sym (ap port_type (port_found outs p.from j.output b j.out)) in
    left ∙ ap (λ k. k ∷ map (λ vr. port_type (port_with vr ins)) (references (ports_into ins ps))) one
    ∙ ap (λ l. port_type (port_with j.output.vr outs) ∷ l) (same_types ins outs a b ps h.1) ∙ sym right

-- the output at a position
pub output_at_place : (ins outs : List Port) (ps : List Pair) (j : ℕ) (p : Pair) (q : Port) → AllByRecursion (IsJoined ins outs) ps → slice_get ps j ≡ Some p → slice_get outs p.from ≡ Some q → slice_get (references (ports_out outs ps)) j ≡ Some q.vr
output_at_place ins outs ps j p q h e f =
    let some = each_weaker (IsJoined ins outs) (λ (z : Pair). is_some (slice_get outs z.from) ≡ true) (λ z k. ap is_some k.out) ps h in
    slice_get-map (λ (z : Port). z.vr) (ports_out outs ps) j ∙ ap (option_map (λ (z : Port). z.vr)) (chosen_at (λ (z : Pair). slice_get outs z.from) ps j p some e ∙ f)

-- the value of an output by its reference is that at its place
pub value_read : (ports : List Port) (i : ℕ) (q : Port) (vs : List ℤ) → Pairwise (λ (p q : Port). p.vr ≢ q.vr) ports → slice_get ports i ≡ Some q → length vs ≡ length ports → output_value q.vr ports vs ≡ slice_index_or vs i (pos 0)
value_read [] i q vs h e l = absurd cc
value_read (p ∷ ports) i q [] h e l = absurd (omega (arith, l))
value_read (p ∷ ports) zero q (v ∷ vs) h e l =
    let same : p ≡ q = cc in
    ap (λ b. if b then v else output_value q.vr ports vs) (eq-eqb p.vr q.vr (ap (λ (x : Port). x.vr) same))
value_read (p ∷ ports) (suc i) q (v ∷ vs) h e l =
    let other : p.vr ≢ q.vr = each_got (λ (x : Port). p.vr ≢ x.vr) ports i q h.0 e in
    let t : (p.vr == q.vr) ≡ false = grind (arith, nat_tests, other) in
    ap (λ b. if b then v else output_value q.vr ports vs) t ∙ value_read ports i q vs h.1 e (omega (arith, l))
