-- A slave that is never asked for notices of its log sends none.
use Rattle.std.proofs.Common.{◌≡◌, ℕ, ◌≤◌, Bool, true, false, if◌then◌else◌, Option, Some, None, List, [], ◌∷◌, ◌++◌, length, refl, sym, ap, ◌∙◌, subst, arith}
use Rattle.std.specs.Prelude.{◌==◌, ◌&&◌, nat_le, drop}
use Rattle.std.proofs.lemmas.Bool.Decides.{nat_tests}
use Rattle.dcp_types.specs.Codes.{state_code, fault_code}
use Rattle.dcp_types.specs.declared.states.State.{State}
use Rattle.dcp_types.specs.declared.error_codes.ErrorCode.{ErrorCode}
use Rattle.dcp_types.specs.declared.error_codes.ErrorCode.TheVariants.{InputsMissing}
use Rattle.pdu_layout.specs.declared.messages.Stc.{Stc}
use Rattle.pdu_layout.specs.declared.messages.Stc.TheVariants as stc
use Rattle.pdu_layout.specs.declared.messages.Cfg.{Cfg}
use Rattle.pdu_layout.specs.declared.messages.Cfg.TheVariants as cfg
use Rattle.pdu_layout.specs.declared.messages.Inf.TheVariants as inf
use Rattle.slave_log.specs.declared.lines.LogLine.{LogLine}
use Rattle.slave_log.specs.Shelves.{Log, shelf, with_shelf, put, line, is_noted, noted, to_send, left}
use Rattle.slave_spec.specs.Transport.{Parcel, Answered, Turned}
use Rattle.slave_spec.specs.Plants.{Plant}
use Rattle.slave_spec.specs.declared.words.SlaveSetup.{SlaveSetup}
use Rattle.slave_spec.specs.declared.words.LogRemark.{LogRemark}
use Rattle.slave_spec.specs.Requests.{note, noted_all, told, notices, refused_notes, accepted_notes, changed_to, set_to, accepted, state_or, answered_plant}
use Rattle.slave_spec.specs.Turns.{Act, Stay, Wait, Fault, Step, Pass, parcels, reached, turned, counted, sent_after}
use Rattle.fixed_models.specs.Views.{moved}
use Rattle.dcp_types.specs.declared.states.State.TheVariants.{Computed, ErrorHandling}
use Rattle.slave_spec.specs.declared.words.Asked as ask
use Rattle.slave_spec.specs.declared.words.Asked.TheVariants as asks
use Rattle.slave_states.specs.Transitions.{next_on, next_on_turn}
use Rattle.completeness_laws.proofs.Quiet.Plain.{IsPlainSetting, IsPlainAsked}

-- no entry is sent at once, nor kept: each has a level from 1
pub record IsMute (log : Log) : Type 0 where
  pub first : log.first.level ≡ 0
  pub second : log.second.level ≡ 0
  pub third : log.third.level ≡ 0

shelf_mute : (log : Log) → IsMute log → (c : ℕ) → (shelf log c).level ≡ 0
shelf_mute log m c = by (c == 1) (c == 2)
  where
    by : (a b : Bool) → (if a then log.first else (if b then log.second else log.third)).level ≡ 0
    by true b = m.first
    by false true = m.second
    by false false = m.third

not_noted : (log : Log) → IsMute log → (c level : ℕ) → 1 ≤ level → is_noted (shelf log c) level ≡ false
not_noted log m c level h = let e = shelf_mute log m c in low (shelf log c).level level e h
  where
    low : (a b : ℕ) → a ≡ 0 → 1 ≤ b → nat_le b a ≡ false
    low a b e h = grind (arith, nat_tests)

noted_same : (log : Log) → IsMute log → (c level code step : ℕ) → 1 ≤ level → noted log c level code step ≡ log
noted_same log m c level code step h = ap (λ (b : Bool). if b then with_shelf log c (put (shelf log c) (line (shelf log c).next c level code step)) else log) (not_noted log m c level h)

none_sent : (log : Log) → IsMute log → (c level code step : ℕ) → 1 ≤ level → to_send log c level code step ≡ None
none_sent log m c level code step h = ap (λ (b : Bool). if b && ((shelf log c).mode == 1) then Some (line (shelf log c).next c level code step) else None) (not_noted log m c level h)

abbrev HaveLevels : List LogRemark → Type 0
HaveLevels [] = Unit {0}
HaveLevels (n ∷ ns) = (1 ≤ n.level) × HaveLevels ns

levels_append : (xs ys : List LogRemark) → HaveLevels xs → HaveLevels ys → HaveLevels (xs ++ ys)
levels_append [] ys a b = b
levels_append (x ∷ xs) ys a b = (a.0, levels_append xs ys a.1 b)

no_notices : (log : Log) → IsMute log → (step : ℕ) (ns : List LogRemark) → HaveLevels ns → notices log step ns ≡ []
no_notices log m step [] h = refl
no_notices log m step (n ∷ ns) h =
    ap (λ (z : Option LogLine). told z (notices (noted log n.category n.level n.code step) step ns)) (none_sent log m n.category n.level n.code step h.0)
    ∙ ap (λ (z : Log). notices z step ns) (noted_same log m n.category n.level n.code step h.0) ∙ no_notices log m step ns h.1

all_same : (log : Log) → IsMute log → (step : ℕ) (ns : List LogRemark) → HaveLevels ns → noted_all log step ns ≡ log
all_same log m step [] h = refl
all_same log m step (n ∷ ns) h = ap (λ (z : Log). noted_all z step ns) (noted_same log m n.category n.level n.code step h.0) ∙ all_same log m step ns h.1

refused_levels : (code : ErrorCode) → HaveLevels (refused_notes code)
refused_levels InputsMissing = (omega arith, tt)
refused_levels code = tt

accepted_levels : (asked : ask.Asked) (state : State) → HaveLevels (accepted_notes asked state)
accepted_levels (asks.Change named request) state = (omega arith, tt)
accepted_levels (asks.Setting body) state = tt
accepted_levels (asks.Question q) state = tt

-- ---- what a request makes of it
left_mute : (log : Log) → IsMute log → (c most : ℕ) → IsMute (left log c most)
left_mute log m c most = by (c == 1) (c == 2) (shelf_mute log m c)
  where
    by : (a b : Bool) → (shelf log c).level ≡ 0 → IsMute (if a then record log { first = record (shelf log c) { kept = drop most (shelf log c).kept } } else (if b then record log { second = record (shelf log c) { kept = drop most (shelf log c).kept } } else record log { third = record (shelf log c) { kept = drop most (shelf log c).kept } }))
    by true b e = record { first = e; second = m.second; third = m.third }
    by false true e = record { first = m.first; second = e; third = m.third }
    by false false e = record { first = m.first; second = m.second; third = e }

changed_mute : (s : SlaveSetup) (p : Plant) → IsMute p.log → (request : Stc) (state : State) → IsMute (changed_to s p request state).log
changed_mute s p m (stc.DoStep steps) state = m
changed_mute s p m stc.Reset state = m
changed_mute s p m request state = m

set_mute : (s : SlaveSetup) (p : Plant) → IsMute p.log → (body : Cfg) → IsPlainSetting body → IsMute (set_to s p body).log
set_mute s p m (cfg.Logging category level mode) h = absurd h
set_mute s p m (cfg.Parameter vr kind value) h = m
set_mute s p m cfg.Clear h = m
set_mute s p m body h = m

accepted_mute : (s : SlaveSetup) (p : Plant) → IsMute p.log → (asked : ask.Asked) → IsPlainAsked asked → IsMute (accepted s p asked).log
unfolding accepted
accepted_mute s p m (asks.Change named request) h = changed_mute s p m request (state_or p.state (next_on p.state request named p.outputs_sent))
accepted_mute s p m (asks.Setting body) h = set_mute s p m body h
accepted_mute s p m (asks.Question (inf.Log category most)) h = left_mute p.log m category most
accepted_mute s p m (asks.Question inf.State) h = m
accepted_mute s p m (asks.Question inf.Error) h = m

pub record IsMuteAnswer (a : Answered Plant) : Type 0 where
  pub none : a.notices ≡ []
  pub after : IsMute a.after.log

pub answered_mute : (s : SlaveSetup) (p : Plant) → IsMute p.log → (asked : ask.Asked) → IsPlainAsked asked → (o : Option ErrorCode) → IsMuteAnswer (answered_plant s p asked o)
answered_mute s p m asked h (Some code) = record { none = no_notices p.log m p.steps (refused_notes code) (refused_levels code); after = subst IsMute (sym (all_same p.log m p.steps (refused_notes code) (refused_levels code))) m }
answered_mute s p m asked h None =
    let q = accepted s p asked in
    let n = accepted_mute s p m asked h in
    let l = accepted_levels asked q.state in
    record { none = no_notices q.log n q.steps (accepted_notes asked q.state) l; after = subst IsMute (sym (all_same q.log n q.steps (accepted_notes asked q.state) l)) n }

-- ---- what a turn makes of it
pub record IsMuteTurn (t : Turned Plant) : Type 0 where
  pub few : length t.notices ≤ 1
  pub after : IsMute t.after.log

reached_mute : (ps : List Parcel) (ns : List LogRemark) (p : Plant) → HaveLevels ns → IsMute p.log → IsMuteTurn (reached ps ns p)
reached_mute ps ns p h m =
    let all = ns ++ note 1 2 (state_code p.state) ∷ [] in
    let l = levels_append ns (note 1 2 (state_code p.state) ∷ []) h (omega arith, tt) in
    let e = ap length (no_notices p.log m p.steps all l) in
    record { few = omega (arith, e); after = subst IsMute (sym (all_same p.log m p.steps all l)) m }

pub turned_mute : (s : SlaveSetup) (p : Plant) → IsMute p.log → (a : Act) → IsMuteTurn (turned s p a)
turned_mute s p m Stay = record { few = omega arith; after = m }
turned_mute s p m (Wait n) = record { few = omega arith; after = m }
turned_mute s p m (Fault code) = reached_mute [] (note 3 1 (fault_code code) ∷ []) (record p { state = ErrorHandling; fault = Some code }) (omega arith, tt) m
turned_mute s p m (Step state) = reached_mute [] (note 2 3 0 ∷ []) (record p { state = Computed; steps = counted p.steps; model = moved p.model state }) (omega arith, tt) m
turned_mute s p m Pass = reached_mute (parcels s p) [] (record p { state = next_on_turn p.state 0; outputs_sent = sent_after p.state p.outputs_sent }) tt m
