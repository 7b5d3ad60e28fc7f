-- The wiring whole.
use Rattle.std.proofs.Common.{◌≡◌, ℕ, ◌/◌, Bool, true, false, List, [], ◌∷◌, refl, ap, sym, ◌∙◌, Some, arith}
use Rattle.std.specs.Prelude.{Result, Ok, Err, MatchResult, ◌==◌, ◌&&◌, ◌||◌, nat_le, is_some}
use Rattle.std.specs.List.{list_all}
use Rattle.std.proofs.lemmas.Bool.Decides.{nat_tests}
use Rattle.std.proofs.lemmas.List.Folds.{list_all-map}
use Rattle.dcp_types.specs.declared.data_types.DataType.{DataType}
use Rattle.dcp_types.specs.declared.error_codes.ErrorCode.TheVariants.{NotSupported}
use Rattle.pdu_layout.specs.declared.messages.Cfg.TheVariants as cfg
use Rattle.pdu_layout.specs.declared.messages.NetInfo.{NetInfo}
use Rattle.slave_desc.specs.declared.descriptions.SlaveDesc.{SlaveDesc}
use Rattle.slave_spec.specs.Changes.{Change, Set, input, output, has_id, ids, source, complete, steps_in_run}
use Rattle.slave_spec.specs.Refusals.{refusal_of_setting, refused_unless, is_transport}
use Rattle.slave_spec.specs.Payloads as payloads
use Rattle.slave_spec.specs.Payloads.{WiringState, ready, is_here, kept_under}
use Rattle.slave_device.specs.Wires.Sending.{output_row, AreOutputs}
use Rattle.slave_device.specs.Wires.Receiving.{input_row, AreInputs, is_kept_for}
use Rattle.slave_device.specs.Wires.Standing.{WiringFor}
use Rattle.slave_device.specs.declared.tables.InputRow.{InputRow}
use Rattle.slave_device.specs.declared.tables.OutputRow.{OutputRow}
use Rattle.slave_device.specs.declared.tables.Outputs.{Outputs}
use Rattle.slave_device.specs.declared.wirings.Wiring.{Wiring}
use Rattle.slave_device.proofs.Wires.Receiving.{not_resolution}
use Rattle.slave_device.proofs.Wires.Taking.{kept_same}

pub match_both : {T E : Type 0} {P P' : T → Type 0} {Q Q' : E → Type 0} (r : Result T E) → ((v : T) → P v → P' v) → ((e : E) → Q e → Q' e) → MatchResult r P Q → MatchResult r P' Q'
match_both (Ok v) f g m = f v m
match_both (Err e) f g m = g e m

-- ---- changes that are not on outputs

pub not_input : (d : SlaveDesc) (changes : List Change) (o : Outputs) (id position vr : ℕ) (source : DataType) → AreOutputs d changes o → AreOutputs d (Set (cfg.Input id position vr source) ∷ changes) o
not_input d changes o id position vr source h = record { listed = h.listed; sorted = h.sorted; rows = h.rows; told = h.told }

pub not_source : (d : SlaveDesc) (changes : List Change) (o : Outputs) (net : NetInfo) → AreOutputs d changes o → AreOutputs d (Set (cfg.Source net) ∷ changes) o
not_source d changes o net h = record { listed = h.listed; sorted = h.sorted; rows = h.rows; told = h.told }

not_time : (d : SlaveDesc) (changes : List Change) (o : Outputs) (numerator denominator : ℕ) → AreOutputs d changes o → AreOutputs d (Set (cfg.TimeRes numerator denominator) ∷ changes) o
not_time d changes o numerator denominator h = record { listed = h.listed; sorted = h.sorted; rows = h.rows; told = h.told }

-- ---- the wiring with other parts

pub with_inputs : (w n : Wiring) (d : SlaveDesc) (x : WiringState) → WiringFor w d x → n.numerator ≡ w.numerator → n.denominator ≡ w.denominator → n.has_time ≡ w.has_time → AreInputs d x n.inputs → AreOutputs d x.changes n.outputs → WiringFor n d x
with_inputs w n d x h a b t i o = record { numerator = a ∙ h.numerator; denominator = b ∙ h.denominator; time = t ∙ h.time; inputs = i; outputs = o }

pub time_told : (w n : Wiring) (d : SlaveDesc) (x : WiringState) (numerator denominator : ℕ) → WiringFor w d x → n.numerator ≡ w.numerator → n.denominator ≡ w.denominator → n.has_time ≡ true → n.inputs ≡ w.inputs → n.outputs ≡ w.outputs → WiringFor n d (payloads.set x (cfg.TimeRes numerator denominator))
time_told w n d x numerator denominator h a b t i o = record {
  numerator = a ∙ h.numerator;
  denominator = b ∙ h.denominator;
  time = t ∙ grind (arith, nat_tests);
  inputs = rw i (not_resolution d x w.inputs numerator denominator h.inputs);
  outputs = rw o (not_time d x.changes w.outputs numerator denominator h.outputs);
}

-- ---- refusals

pub time_judged : (d : SlaveDesc) (changes : List Change) (numerator denominator : ℕ) (b : Bool) → b ≡ ((numerator == d.numerator) && (denominator == d.denominator)) → refusal_of_setting d changes (cfg.TimeRes numerator denominator) ≡ refused_unless b NotSupported
unfolding refusal_of_setting
time_judged d changes numerator denominator b e = ap (λ c. refused_unless c NotSupported) (sym e)

pub interval_judged : (d : SlaveDesc) (changes : List Change) (id q : ℕ) (b : Bool) → b ≡ (nat_le 1 q && nat_le q 1000 && (has_id input id changes || has_id output id changes)) → refusal_of_setting d changes (cfg.Steps id q) ≡ refused_unless b NotSupported
unfolding refusal_of_setting
interval_judged d changes id q b e = ap (λ c. refused_unless c NotSupported) (sym e)

pub no_source_way : (d : SlaveDesc) (changes : List Change) (net : NetInfo) → is_transport net.protocol ≡ false → refusal_of_setting d changes (cfg.Source net) ≡ Some NotSupported
unfolding refusal_of_setting
no_source_way d changes net e = rw e refl

pub no_target_way : (d : SlaveDesc) (changes : List Change) (net : NetInfo) → is_transport net.protocol ≡ false → refusal_of_setting d changes (cfg.Target net) ≡ Some NotSupported
unfolding refusal_of_setting
no_target_way d changes net e = rw e refl

-- ---- complete and ready

all_same : {X : Type 0} (p q : X → Bool) (xs : List X) → ((x : X) → p x ≡ q x) → list_all p xs ≡ list_all q xs
all_same p q [] same = refl
all_same p q (x ∷ xs) same = let e = same x in let r = all_same p q xs same in cc

pub complete_is : (w : Wiring) (d : SlaveDesc) (x : WiringState) → WiringFor w d x
    → (w.has_time && list_all (λ (row : InputRow). is_some row.source) w.inputs.rows.items && list_all (λ (row : OutputRow). is_some row.target) w.outputs.rows.items) ≡ complete x.changes
complete_is w d x h =
    let p : InputRow → Bool = λ row. is_some row.source in
    let q : OutputRow → Bool = λ row. is_some row.target in
    let s = ap (list_all p) h.inputs.rows ∙ list_all-map p (input_row d x) (ids input x.changes) in
    let t = ap (list_all q) h.outputs.rows ∙ list_all-map q (output_row d.outputs x.changes) (ids output x.changes) in
    rw (s, t, h.time) refl

pub ready_is : (w : Wiring) (d : SlaveDesc) (x : WiringState) (steps : ℕ) → WiringFor w d x → list_all (λ (row : InputRow). is_kept_for (steps / row.interval) row.kept) w.inputs.rows.items ≡ ready x steps
ready_is w d x steps h =
    let p : InputRow → Bool = λ row. is_kept_for (steps / row.interval) row.kept in
    ap (list_all p) h.inputs.rows ∙ list_all-map p (input_row d x) (ids input x.changes)
    ∙ all_same (λ id. p (input_row d x id)) (is_here x steps) (ids input x.changes) (λ id. kept_same (steps_in_run input id x.changes steps) (kept_under id x.kept))
