-- The model of a description is of its kind, and has its ports.
use Rattle.std.proofs.Common.{◌≡◌, ◌∙◌, sym, ℕ, ◌≤◌, true, false, ◌==◌, length, refl}
use Rattle.std.proofs.lemmas.Bool.{and_parts, eqb-true}
use Rattle.std.proofs.lemmas.List.{length-map}
use Rattle.fixed_models.specs.declared.kinds.Kind.{Kind}
use Rattle.fixed_models.specs.declared.kinds.Kind.TheVariants as kinds
use Rattle.fixed_models.specs.Kinds.{is_external, has_inputs, output_count, has_output_count}
use Rattle.fixed_models.specs.Views.{accepts}
use Rattle.slave_desc.specs.declared.descriptions.SlaveDesc.{SlaveDesc}
use Rattle.slave_desc.specs.Descriptions.{IsDesc, HasModel}
use Rattle.slave_spec.specs.Plants.{model_with, output_types}
use Rattle.slave_device.specs.Made.{IsMade}

-- a kind that is here has as many outputs as its model
count_here : (kind : Kind) (n : ℕ) → is_external kind ≡ false → has_output_count kind n ≡ (n == output_count kind)
count_here kinds.Const n here = refl
count_here kinds.Ramp n here = refl
count_here kinds.Counter n here = refl
count_here kinds.Gain n here = refl
count_here kinds.Sum n here = refl
count_here kinds.Integrator n here = refl
count_here kinds.Lag n here = refl
count_here kinds.Delay n here = refl
count_here kinds.Limiter n here = refl
count_here kinds.Deadband n here = refl
count_here kinds.Divider n here = refl
count_here kinds.Oscillator n here = refl
count_here kinds.Tank n here = refl
count_here kinds.Switch n here = refl
count_here kinds.External n here = cc

outputs_of : (d : SlaveDesc) → IsDesc d → HasModel d → (length d.outputs == output_count d.kind) ≡ true
outputs_of d h here = sym (count_here d.kind (length d.outputs) here) ∙ (and_parts (has_inputs d.kind (length d.inputs)) (has_output_count d.kind (length d.outputs)) h.ports).1

pub made_with : (d : SlaveDesc) (micro : ℕ) → IsDesc d → HasModel d → 1 ≤ micro → IsMade (record { desc = d; micro = micro }) (model_with d d.parameters)
made_with d micro h here m = record {
  kind = refl;
  types = refl;
  count = refl;
  taken = h.taken;
  inputs = (and_parts (has_inputs d.kind (length d.inputs)) (has_output_count d.kind (length d.outputs)) h.ports).0;
  outputs = eqb-true (length d.outputs) (output_count d.kind) (outputs_of d h here);
  few = h.few_outputs.1;
  micro = m;
}

pub accepted_with : (d : SlaveDesc) → IsDesc d → HasModel d → accepts d.kind d.parameters (length (output_types d)) ≡ true
accepted_with d h here =
    rw (here, h.taken, length-map d.outputs (λ port. port.kind)) (outputs_of d h here)
