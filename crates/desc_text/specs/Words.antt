-- Types and kinds as words.
use Rattle.std.specs.Prelude.{ℕ, List, if◌then◌else◌, Option, Some, None, codes}
use Rattle.std.specs.Str.{bytes_eq}
use Rattle.dcp_types.specs.declared.data_types.DataType.{DataType}
use Rattle.dcp_types.specs.declared.data_types.DataType.TheVariants as types
use Rattle.fixed_models.specs.declared.kinds.Kind.{Kind}
use Rattle.fixed_models.specs.declared.kinds.Kind.TheVariants as kinds

-- the eight words
abbrev pub data_type_of : List ℕ → Option DataType
data_type_of w =
    if bytes_eq w (codes "uint8") then Some types.U8
    else (if bytes_eq w (codes "uint16") then Some types.U16
    else (if bytes_eq w (codes "uint32") then Some types.U32
    else (if bytes_eq w (codes "uint64") then Some types.U64
    else (if bytes_eq w (codes "int8") then Some types.I8
    else (if bytes_eq w (codes "int16") then Some types.I16
    else (if bytes_eq w (codes "int32") then Some types.I32
    else (if bytes_eq w (codes "int64") then Some types.I64
    else None)))))))

-- the kinds of models
abbrev pub kind_named : List ℕ → Option Kind
kind_named w =
    if bytes_eq w (codes "const") then Some kinds.Const
    else (if bytes_eq w (codes "ramp") then Some kinds.Ramp
    else (if bytes_eq w (codes "counter") then Some kinds.Counter
    else (if bytes_eq w (codes "gain") then Some kinds.Gain
    else (if bytes_eq w (codes "sum") then Some kinds.Sum
    else (if bytes_eq w (codes "integrator") then Some kinds.Integrator
    else (if bytes_eq w (codes "lag") then Some kinds.Lag
    else (if bytes_eq w (codes "delay") then Some kinds.Delay
    else (if bytes_eq w (codes "limiter") then Some kinds.Limiter
    else (if bytes_eq w (codes "deadband") then Some kinds.Deadband
    else (if bytes_eq w (codes "divider") then Some kinds.Divider
    else (if bytes_eq w (codes "oscillator") then Some kinds.Oscillator
    else (if bytes_eq w (codes "tank") then Some kinds.Tank
    else (if bytes_eq w (codes "switch") then Some kinds.Switch
    else (if bytes_eq w (codes "external") then Some kinds.External
    else None))))))))))))))
