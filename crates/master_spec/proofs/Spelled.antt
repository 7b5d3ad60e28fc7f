-- The requests of the plan have a spelling.
use Rattle.std.proofs.Common.{◌≡◌, ℕ, zero, suc, ◌+◌, ◌-◌, ◌^◌, ◌<◌, ◌≤◌, List, [], ◌∷◌, ◌++◌, map, refl, arith, IsTrue}
use Rattle.std.specs.Prelude.{ℤ, pos, slice_index_or}
use Rattle.std.specs.List.{AllByRecursion}
use Rattle.dcp_types.specs.declared.data_types.DataType.{DataType}
use Rattle.dcp_types.specs.declared.data_types.DataType.TheVariants as types
use Rattle.dcp_types.specs.Values.{digits, fits}
use Rattle.dcp_types.specs.Codes.{state_code, type_code}
use Rattle.dcp_types.specs.declared.states.State.{State}
use Rattle.dcp_types.specs.declared.states.State.TheVariants as states
use Rattle.pdu_layout.specs.declared.fields.FieldKind.TheVariants.{U8, U16, U32, U64, I64, StateCode, TypeCode, Value, Uuid, Ip}
use Rattle.pdu_layout.specs.declared.messages.Cfg.{Cfg}
use Rattle.pdu_layout.specs.declared.messages.Cfg.TheVariants as cfg
use Rattle.pdu_layout.specs.declared.messages.NetInfo.{NetInfo}
use Rattle.pdu_layout.specs.declared.messages.Stc.TheVariants as stc
use Rattle.master_spec.specs.declared.requests.Request.{Request}
use Rattle.master_spec.specs.declared.requests.Request.TheVariants.{Change, Configure}
use Rattle.master_spec.specs.declared.setups.Script.{Script}
use Rattle.master_spec.specs.declared.setups.Slave.{Slave}
use Rattle.master_spec.specs.Askable.{IsAskable, AreAskable, IsJobAskable, IsScriptAskable}

-- ---- changes of state

pub register : (uuid : ℕ) → uuid < 2 ^ 128 → IsAskable (Change states.Alive (stc.Register uuid 2 1 0))
unfolding digits
register uuid h number id hn hi =
    (_, record { kinds = U16 ∷ U8 ∷ StateCode ∷ Uuid ∷ U8 ∷ U8 ∷ U8 ∷ []; listed = refl; fits = (hn, (hi, (omega arith, (omega (arith, h), (omega arith, (omega arith, (omega arith, tt))))))); bytes = refl; at_most = omega arith })

pub run_asked : IsAskable (Change states.Configured (stc.Run (pos 0)))
unfolding digits
run_asked number id hn hi = (_, record { kinds = U16 ∷ U8 ∷ StateCode ∷ I64 ∷ []; listed = refl; fits = (hn, (hi, (omega arith, (refl, tt)))); bytes = refl; at_most = omega arith })

pub step : IsAskable (Change states.Running (stc.DoStep 1))
unfolding digits
step number id hn hi = (_, record { kinds = U16 ∷ U8 ∷ StateCode ∷ U32 ∷ []; listed = refl; fits = (hn, (hi, (omega arith, (omega arith, tt)))); bytes = refl; at_most = omega arith })

pub deregister : IsAskable (Change states.Stopped stc.Deregister)
unfolding digits
deregister number id hn hi = (_, record { kinds = U16 ∷ U8 ∷ StateCode ∷ []; listed = refl; fits = (hn, (hi, (omega arith, tt))); bytes = refl; at_most = omega arith })

pub prepare : IsAskable (Change states.Configuration stc.Prepare)
unfolding digits
prepare number id hn hi = (_, record { kinds = U16 ∷ U8 ∷ StateCode ∷ []; listed = refl; fits = (hn, (hi, (omega arith, tt))); bytes = refl; at_most = omega arith })

pub configure : IsAskable (Change states.Prepared stc.Configure)
unfolding digits
configure number id hn hi = (_, record { kinds = U16 ∷ U8 ∷ StateCode ∷ []; listed = refl; fits = (hn, (hi, (omega arith, tt))); bytes = refl; at_most = omega arith })

pub initialize : IsAskable (Change states.Configured stc.Initialize)
unfolding digits
initialize number id hn hi = (_, record { kinds = U16 ∷ U8 ∷ StateCode ∷ []; listed = refl; fits = (hn, (hi, (omega arith, tt))); bytes = refl; at_most = omega arith })

pub first_outputs : IsAskable (Change states.Initialized stc.SendOutputs)
unfolding digits
first_outputs number id hn hi = (_, record { kinds = U16 ∷ U8 ∷ StateCode ∷ []; listed = refl; fits = (hn, (hi, (omega arith, tt))); bytes = refl; at_most = omega arith })

pub outputs : IsAskable (Change states.Computed stc.SendOutputs)
unfolding digits
outputs number id hn hi = (_, record { kinds = U16 ∷ U8 ∷ StateCode ∷ []; listed = refl; fits = (hn, (hi, (omega arith, tt))); bytes = refl; at_most = omega arith })

pub stop : IsAskable (Change states.Running stc.Stop)
unfolding digits
stop number id hn hi = (_, record { kinds = U16 ∷ U8 ∷ StateCode ∷ []; listed = refl; fits = (hn, (hi, (omega arith, tt))); bytes = refl; at_most = omega arith })

pub reset : IsAskable (Change states.Stopped stc.Reset)
unfolding digits
reset number id hn hi = (_, record { kinds = U16 ∷ U8 ∷ StateCode ∷ []; listed = refl; fits = (hn, (hi, (omega arith, tt))); bytes = refl; at_most = omega arith })

-- ---- configurations

pub clear : IsAskable (Configure cfg.Clear)
unfolding digits
clear number id hn hi = (_, record { kinds = U16 ∷ U8 ∷ []; listed = refl; fits = (hn, (hi, tt)); bytes = refl; at_most = omega arith })

pub time_res : (a b : ℕ) → a < 2 ^ 32 → b < 2 ^ 32 → IsAskable (Configure (cfg.TimeRes a b))
unfolding digits
time_res a b ha hb number id hn hi = (_, record { kinds = U16 ∷ U8 ∷ U32 ∷ U32 ∷ []; listed = refl; fits = (hn, (hi, (omega (arith, ha), (omega (arith, hb), tt)))); bytes = refl; at_most = omega arith })

pub steps : (id_of every : ℕ) → id_of < 65536 → every < 2 ^ 32 → IsAskable (Configure (cfg.Steps id_of every))
unfolding digits
steps id_of every hd he number id hn hi = (_, record { kinds = U16 ∷ U8 ∷ U16 ∷ U32 ∷ []; listed = refl; fits = (hn, (hi, (hd, (omega (arith, he), tt)))); bytes = refl; at_most = omega arith })

type_below : (kind : DataType) → type_code kind < 8
type_below types.U8 = omega arith
type_below types.U16 = omega arith
type_below types.U32 = omega arith
type_below types.U64 = omega arith
type_below types.I8 = omega arith
type_below types.I16 = omega arith
type_below types.I32 = omega arith
type_below types.I64 = omega arith

pub input : (id_of i vr : ℕ) (kind : DataType) → id_of < 65536 → i < 65536 → vr < 2 ^ 64 → IsAskable (Configure (cfg.Input id_of i vr kind))
unfolding digits
input id_of i vr kind hd hp hv number id hn hi =
    (_, record { kinds = U16 ∷ U8 ∷ U16 ∷ U16 ∷ U64 ∷ TypeCode ∷ []; listed = refl; fits = (hn, (hi, (hd, (hp, (omega (arith, hv), (type_below kind, tt)))))); bytes = refl; at_most = omega arith })

pub output : (id_of i vr : ℕ) → id_of < 65536 → i < 65536 → vr < 2 ^ 64 → IsAskable (Configure (cfg.Output id_of i vr))
unfolding digits
output id_of i vr hd hp hv number id hn hi =
    (_, record { kinds = U16 ∷ U8 ∷ U16 ∷ U16 ∷ U64 ∷ []; listed = refl; fits = (hn, (hi, (hd, (hp, (omega (arith, hv), tt))))); bytes = refl; at_most = omega arith })

-- where data goes to or comes from
pub record IsNetInfo (net : NetInfo) : Type 0 where
  pub data_id : net.data_id < 65536
  pub protocol : net.protocol < 256
  pub port : net.port < 65536
  pub ip : net.ip < 2 ^ 32

pub target : (net : NetInfo) → IsNetInfo net → IsAskable (Configure (cfg.Target net))
unfolding digits
target net h number id hn hi =
    (_, record { kinds = U16 ∷ U8 ∷ U16 ∷ U8 ∷ U16 ∷ Ip ∷ []; listed = refl; fits = (hn, (hi, (h.data_id, (h.protocol, (h.port, (omega (arith, h.ip), tt)))))); bytes = refl; at_most = omega arith })

pub source : (net : NetInfo) → IsNetInfo net → IsAskable (Configure (cfg.Source net))
unfolding digits
source net h number id hn hi =
    (_, record { kinds = U16 ∷ U8 ∷ U16 ∷ U8 ∷ U16 ∷ Ip ∷ []; listed = refl; fits = (hn, (hi, (h.data_id, (h.protocol, (h.port, (omega (arith, h.ip), tt)))))); bytes = refl; at_most = omega arith })

pub parameter : (vr : ℕ) (value : ℤ) → vr < 2 ^ 64 → IsTrue (fits types.I64 value) → IsAskable (Configure (cfg.Parameter vr types.I64 value))
unfolding digits
parameter vr value hv hz number id hn hi =
    (_, record { kinds = U16 ∷ U8 ∷ U64 ∷ TypeCode ∷ Value ∷ []; listed = refl; fits = (hn, (hi, (omega (arith, hv), (omega arith, (hz, tt))))); bytes = refl; at_most = omega arith })

-- ---- jobs

pub all_asked : (list : List Cfg) → AreAskable list → AllByRecursion (λ request. IsAskable request) (map Configure list)
all_asked [] a = tt
all_asked (body ∷ list) a = (a.0, all_asked list a.1)

pub list_at : (lists : List (List Cfg)) (i : ℕ) → AllByRecursion (λ list. AreAskable list) lists → AreAskable (slice_index_or lists i [])
list_at [] zero a = tt
list_at [] (suc i) a = tt
list_at (list ∷ lists) zero a = a.0
list_at (list ∷ lists) (suc i) a = list_at lists i a.1
