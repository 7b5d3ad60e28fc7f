-- What a payload says.
use Rattle.std.specs.Prelude.{◌≡◌, ℕ, true, List, map, reverse, ℤ}
use Rattle.fixed_models.specs.Steps.{all_fit}
use Rattle.slave_desc.specs.declared.descriptions.SlaveDesc.{SlaveDesc}
use Rattle.slave_spec.specs.Changes.{Change, output, entries}
use Rattle.slave_spec.specs.Payloads.{types_in, cut_values, output_value, payload}

-- outputs that lie in their types are cut back from the payload of a data id, in the order of its entries
abbrev pub PayloadsReadBack : Type 0
PayloadsReadBack = (d : SlaveDesc) (id : ℕ) (changes : List Change) (vs : List ℤ) → all_fit (map (λ p. p.kind) d.outputs) vs ≡ true
    → cut_values (types_in d.outputs (entries output id changes)) (payload d id changes vs) ≡ map (λ vr. output_value vr d.outputs vs) (reverse (entries output id changes))
