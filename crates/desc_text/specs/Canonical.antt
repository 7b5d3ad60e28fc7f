-- The canonical text of a description.
use Rattle.std.specs.Prelude.{ℕ, ℤ, List, [], ◌∷◌, ◌++◌, map, codes, decimal}
use Rattle.std.specs.List.{flat_map}
use Rattle.std.specs.Fmt.{signed_decimal}
use Rattle.fixed_models.specs.Kinds.{kind_word}
use Rattle.dcp_types.specs.Words.{type_word}
use Rattle.text_lines.specs.Printed.{ip_word, identity_word, line_of}
use Rattle.slave_desc.specs.declared.ports.Port.{Port}
use Rattle.slave_desc.specs.declared.descriptions.SlaveDesc.{SlaveDesc}

-- a parameter behind a space
abbrev pub spaced : ℤ → List ℕ
spaced z = 32 ∷ signed_decimal z

abbrev pub port_words : List ℕ → Port → List (List ℕ)
port_words key p = key ∷ decimal p.vr ∷ type_word p.kind ∷ []

-- the words of the lines before the ports
abbrev pub head_words : SlaveDesc → List (List (List ℕ))
head_words d =
    (codes "slave" ∷ d.name ∷ [])
    ∷ (codes "uuid" ∷ identity_word d.uuid ∷ [])
    ∷ (codes "address" ∷ ip_word d.address.ip ∷ decimal d.address.port ∷ [])
    ∷ (codes "model" ∷ kind_word d.kind ∷ map signed_decimal d.parameters)
    ∷ (codes "busy" ∷ decimal d.busy ∷ [])
    ∷ (codes "heartbeat" ∷ decimal d.heartbeat ∷ [])
    ∷ (codes "resolution" ∷ decimal d.numerator ∷ decimal d.denominator ∷ [])
    ∷ []

-- the words of each line
abbrev pub words_of : SlaveDesc → List (List (List ℕ))
words_of d = head_words d ++ map (port_words (codes "input")) d.inputs ++ map (port_words (codes "output")) d.outputs

abbrev pub canonical : SlaveDesc → List ℕ
canonical d = flat_map line_of (words_of d)
