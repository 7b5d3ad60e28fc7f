-- Why a configuration request is refused, by the changes before it.
use Rattle.std.specs.Prelude.{ℕ, ◌==◌, ◌&&◌, ◌||◌, not, nat_lt, nat_le, Bool, true, false, List, [], ◌∷◌, length, Option, Some, None, is_some, is_none, find, if◌then◌else◌}
use Rattle.std.specs.List.{filter_map, list_any}
use Rattle.dcp_types.specs.declared.data_types.DataType.{DataType}
use Rattle.dcp_types.specs.declared.error_codes.ErrorCode.{ErrorCode}
use Rattle.dcp_types.specs.declared.error_codes.ErrorCode.TheVariants.{NotSupported, UnknownVr, TypeMismatch, Position}
use Rattle.dcp_types.specs.Codes.{type_code}
use Rattle.pdu_layout.specs.declared.messages.Cfg.{Cfg}
use Rattle.pdu_layout.specs.declared.messages.Cfg.TheVariants as cfg
use Rattle.slave_desc.specs.declared.ports.Port.{Port}
use Rattle.slave_desc.specs.declared.descriptions.SlaveDesc.{SlaveDesc}
use Rattle.slave_spec.specs.Changes.{Change, Set, input, output, entries, has_id, ids, source, target}

abbrev pub refused_unless : Bool → ErrorCode → Option ErrorCode
refused_unless true code = None
refused_unless false code = Some code

-- over UDP or over TCP
abbrev pub is_transport : ℕ → Bool
is_transport protocol = (protocol == 0) || (protocol == 4)

abbrev pub port_with : ℕ → List Port → Option Port
port_with vr ports = find (λ p. p.vr == vr) ports

abbrev pub is_input_of : ℕ → Change → Bool
is_input_of vr (Set (cfg.Input id position other source)) = other == vr
is_input_of vr change = false

-- some id has an entry for this input
abbrev pub is_wired : ℕ → List Change → Bool
is_wired vr changes = list_any (is_input_of vr) changes

abbrev pub input_refusal : Option Port → DataType → Bool → Option ErrorCode
input_refusal None source fits = Some UnknownVr
input_refusal (Some port) source fits = if type_code source == type_code port.kind then refused_unless fits Position else Some TypeMismatch

abbrev pub output_refusal : Option Port → Bool → Option ErrorCode
output_refusal None fits = Some UnknownVr
output_refusal (Some port) fits = refused_unless fits Position

-- 17 output ids have room
abbrev pub is_full : ℕ → List Change → Bool
is_full id changes = not (has_id output id changes) && nat_le 17 (length (ids output changes))

-- the first thing that is wrong with a request, where something is; a parameter is not of the wiring
unfoldable pub refusal_of_setting : SlaveDesc → List Change → Cfg → Option ErrorCode
refusal_of_setting d changes cfg.Clear = None
refusal_of_setting d changes (cfg.TimeRes numerator denominator) = refused_unless ((numerator == d.numerator) && (denominator == d.denominator)) NotSupported
refusal_of_setting d changes (cfg.Steps id q) = refused_unless (nat_le 1 q && nat_le q 1000 && (has_id input id changes || has_id output id changes)) NotSupported
refusal_of_setting d changes (cfg.Input id position vr source) =
    input_refusal (port_with vr d.inputs) source ((position == length (entries input id changes)) && not (is_wired vr changes))
refusal_of_setting d changes (cfg.Output id position vr) =
    (if is_full id changes then Some NotSupported
    else output_refusal (port_with vr d.outputs) ((position == length (entries output id changes)) && nat_lt position 8))
refusal_of_setting d changes (cfg.Source net) =
    (if is_transport net.protocol then refused_unless (has_id input net.data_id changes && is_none (source net.data_id changes)) Position else Some NotSupported)
refusal_of_setting d changes (cfg.Target net) =
    (if is_transport net.protocol then refused_unless (has_id output net.data_id changes && is_none (target net.data_id changes)) Position else Some NotSupported)
refusal_of_setting d changes (cfg.Parameter vr kind value) = Some NotSupported
refusal_of_setting d changes (cfg.Tunable param_id position vr kind) = Some NotSupported
refusal_of_setting d changes (cfg.ParamNet param_id protocol port ip) = Some NotSupported
refusal_of_setting d changes (cfg.Logging category level mode) = Some NotSupported
refusal_of_setting d changes (cfg.Scope data_id scope) = Some NotSupported
