-- The values of a data message have the length that its id has, whatever they are.
use Rattle.std.proofs.Common.{◌≡◌, ℕ, ◌+◌, List, [], ◌∷◌, length, map, reverse, refl, ap, sym, ◌∙◌, length-append, sum_by, flat_map}
use Rattle.std.specs.Prelude.{ℤ}
use Rattle.std.proofs.lemmas.List.Sums.{sum_by-cons}
use Rattle.dcp_types.specs.declared.data_types.DataType.{DataType}
use Rattle.dcp_types.specs.Values.{width, value_bytes}
use Rattle.dcp_types.proofs.Digits.{length-digits}
use Rattle.slave_desc.specs.declared.ports.Port.{Port}
use Rattle.slave_desc.specs.declared.descriptions.SlaveDesc.{SlaveDesc}
use Rattle.slave_spec.specs.Changes.{Change, output, entries}
use Rattle.slave_spec.specs.Refusals.{port_with}
use Rattle.slave_spec.specs.Payloads.{payload, port_type, bytes_for, output_value}
use Rattle.slave_spec.specs.Foreign.{values_size}

bytes_length : (kind : DataType) (z : ℤ) → length (value_bytes kind z) ≡ width kind
bytes_length kind z = length-digits (width kind) _

all_length : (ports : List Port) (values : List ℤ) (vrs : List ℕ) → length (flat_map (bytes_for ports values) vrs) ≡ sum_by width (map (λ vr. port_type (port_with vr ports)) vrs)
all_length ports values [] = refl
all_length ports values (vr ∷ vrs) =
    length-append (bytes_for ports values vr) (flat_map (bytes_for ports values) vrs)
    ∙ ap (λ (n : ℕ). n + length (flat_map (bytes_for ports values) vrs)) (bytes_length (port_type (port_with vr ports)) (output_value vr ports values))
    ∙ ap (λ (n : ℕ). width (port_type (port_with vr ports)) + n) (all_length ports values vrs)
    ∙ sym (sum_by-cons width (port_type (port_with vr ports)) (map (λ v. port_type (port_with v ports)) vrs))

pub payload_length : (d : SlaveDesc) (changes : List Change) (id : ℕ) (values : List ℤ) → length (payload d id changes values) ≡ values_size d changes id
payload_length d changes id values = all_length d.outputs values (reverse (entries output id changes))
