-- Requests that were taken, and their answers.
use Rattle.std.proofs.Common.{◌≡◌, ℕ, zero, suc, Bool, true, false, List, [], ◌∷◌, ◌++◌, map, refl, ap, sym, subst, ◌∙◌, Option, Some, None, is_none, slice_get, arith}
use Rattle.dcp_types.specs.declared.addresses.Address.{Address}
use Rattle.dcp_types.specs.declared.states.State.{State}
use Rattle.dcp_types.specs.declared.error_codes.ErrorCode.{ErrorCode}
use Rattle.dcp_types.specs.declared.error_codes.ErrorCode.TheVariants.{NotSupported, ValueRange}
use Rattle.dcp_ends.specs.Events.{Send}
use Rattle.pdu_layout.specs.declared.messages.Stc.{Stc}
use Rattle.pdu_layout.specs.declared.messages.Stc.TheVariants as stc
use Rattle.pdu_layout.specs.declared.messages.Cfg.{Cfg}
use Rattle.pdu_layout.specs.declared.messages.Inf.TheVariants as inf
use Rattle.slave_desc.specs.declared.descriptions.SlaveDesc.{SlaveDesc}
use Rattle.slave_spec.specs.declared.words.Asked.{Asked}
use Rattle.slave_spec.specs.declared.words.Asked.TheVariants.{Change, Setting, Question}
use Rattle.slave_spec.specs.declared.words.SlaveRequest.{SlaveRequest}
use Rattle.slave_spec.specs.Transport.{SlaveAnswer, Ack, Nack, is_last}
use Rattle.slave_spec.specs.Requests.{is_category}
use Rattle.slave_spec.specs.Foreign.{ForeignPlant, table_refusal, foreign_answers, foreign_answered, verdict, log_answers}
use Rattle.conform.specs.declared.meanings.Meaning.{Meaning}
use Rattle.conform.specs.declared.meanings.Meaning.TheVariants as meanings
use Rattle.conform.specs.declared.plants.ForeignDevice.{ForeignDevice}
use Rattle.conform.specs.declared.plants.Setting.{Setting as SettingWay}
use Rattle.conform.specs.declared.plants.Setting.TheVariants as settings
use Rattle.conform.specs.Plants.{ForeignFor, SetTo, verdicts_of}
use Rattle.conform.specs.Asking.{HasAnswersOut, reply, heads, settled, is_ending, is_entries, change_meaning, setting_meaning, log_meaning}

-- the request that asks for this
abbrev request : (number receiver : ℕ) → Asked → SlaveRequest
request number receiver asked = record { number = number; receiver = receiver; asked = asked }

-- whether the session ends with the answer
ends : (named : State) (body : Stc) (refused : Option ErrorCode) → is_last (Change named body) (verdict refused) ≡ is_ending (change_meaning body (is_none refused))
ends named (stc.Register uuid op_mode major minor) refused = refl
ends named stc.Deregister None = refl
ends named stc.Deregister (Some code) = refl
ends named stc.Prepare refused = refl
ends named stc.Configure refused = refl
ends named stc.Initialize refused = refl
ends named (stc.Run start_time) refused = refl
ends named (stc.DoStep steps) refused = refl
ends named stc.SendOutputs refused = refl
ends named stc.Stop refused = refl
ends named stc.Reset refused = refl

plain : (body : Stc) (accepted : Bool) → (to : Address) (r : SlaveRequest) → heads (change_meaning body accepted) to r ≡ []
plain (stc.Register uuid op_mode major minor) accepted to r = refl
plain stc.Deregister true to r = refl
plain stc.Deregister false to r = refl
plain stc.Prepare accepted to r = refl
plain stc.Configure accepted to r = refl
plain stc.Initialize accepted to r = refl
plain (stc.Run start_time) accepted to r = refl
plain (stc.DoStep steps) accepted to r = refl
plain stc.SendOutputs accepted to r = refl
plain stc.Stop accepted to r = refl
plain stc.Reset accepted to r = refl

not_entries : (body : Stc) (accepted : Bool) → false ≡ is_entries (change_meaning body accepted)
not_entries (stc.Register uuid op_mode major minor) accepted = refl
not_entries stc.Deregister true = refl
not_entries stc.Deregister false = refl
not_entries stc.Prepare accepted = refl
not_entries stc.Configure accepted = refl
not_entries stc.Initialize accepted = refl
not_entries (stc.Run start_time) accepted = refl
not_entries (stc.DoStep steps) accepted = refl
not_entries stc.SendOutputs accepted = refl
not_entries stc.Stop accepted = refl
not_entries stc.Reset accepted = refl

unsettled : (body : Stc) (accepted : Bool) (i : ℕ) (c : ForeignDevice) → c ≡ settled (change_meaning body accepted) i c
unsettled (stc.Register uuid op_mode major minor) accepted i c = refl
unsettled stc.Deregister true i c = refl
unsettled stc.Deregister false i c = refl
unsettled stc.Prepare accepted i c = refl
unsettled stc.Configure accepted i c = refl
unsettled stc.Initialize accepted i c = refl
unsettled (stc.Run start_time) accepted i c = refl
unsettled (stc.DoStep steps) accepted i c = refl
unsettled stc.SendOutputs accepted i c = refl
unsettled stc.Stop accepted i c = refl
unsettled stc.Reset accepted i c = refl

-- the only one of a list
only : {A : Type 0} (x y : A) (P : A → Type 0) (i : ℕ) → slice_get (x ∷ []) i ≡ Some y → P x → P y
only x y P zero e h = subst P (cc) h
only x y P (suc i) e h = absurd cc

module _ (d : SlaveDesc) (p : ForeignPlant) (to : Address) (next : ℕ) where
  asked_change : (number receiver : ℕ) (named : State) (body : Stc) (refused : Option ErrorCode) (c : ForeignDevice) (out : List Send)
      → refused ≡ table_refusal d p (Change named body) → ForeignFor c d (foreign_answered d p (Change named body) (verdict refused))
      → out ≡ reply to (request number receiver (Change named body)) next (verdict refused) ∷ []
      → HasAnswersOut d p to (request number receiver (Change named body)) next (change_meaning body (is_none refused)) c out
  asked_change number receiver named body refused c out e h o =
      let asked : Asked = Change named body in
      let r : SlaveRequest = request number receiver asked in
      let m : Meaning = change_meaning body (is_none refused) in
      let one : foreign_answers d p asked ≡ verdict refused ∷ [] = ap (λ (x : Option ErrorCode). verdict x ∷ []) (sym e) in
      record {
        out_is = o ∙ ap (λ (l : List Send). reply to r next (verdict refused) ∷ l) (sym (plain body (is_none refused) to r)) ∙ ap (λ (l : List SlaveAnswer). map (reply to r next) l ++ heads m to r) (sym one);
        few = omega arith;
        entries = not_entries body (is_none refused);
        last = λ i a g. only (verdict refused) a (λ b. is_last asked b ≡ is_ending m) i (subst (λ (l : List SlaveAnswer). slice_get l i ≡ Some a) one g) (ends named body refused);
        after = λ i a g. subst (λ (x : ForeignDevice). ForeignFor x d (foreign_answered d p asked a)) (unsettled body (is_none refused) i c)
            (only (verdict refused) a (λ b. ForeignFor c d (foreign_answered d p asked b)) i (subst (λ (l : List SlaveAnswer). slice_get l i ≡ Some a) one g) h);
        handed = λ (t : is_entries m ≡ true). absurd (cc (not_entries body (is_none refused), t));
      }

  pub change_asked : (r : SlaveRequest) (named : State) (body : Stc) (refused : Option ErrorCode) (c : ForeignDevice) (out : List Send)
      → r.asked ≡ Change named body → refused ≡ table_refusal d p (Change named body) → ForeignFor c d (foreign_answered d p (Change named body) (verdict refused))
      → out ≡ reply to r next (verdict refused) ∷ [] → HasAnswersOut d p to r next (change_meaning body (is_none refused)) c out
  change_asked r named body refused c out asked e h o =
      subst (λ (x : Asked). HasAnswersOut d p to (request r.number r.receiver x) next (change_meaning body (is_none refused)) c out) (sym asked)
      (asked_change r.number r.receiver named body refused c out e h o)

  -- one of two
  two : {A : Type 0} (x y z : A) (P : ℕ → A → Type 0) (i : ℕ) → slice_get (x ∷ y ∷ []) i ≡ Some z → P 0 x → P 1 y → P i z
  two x y z P zero e a b = subst (λ w. P 0 w) (cc) a
  two x y z P (suc zero) e a b = subst (λ w. P 1 w) (cc) b
  two x y z P (suc (suc i)) e a b = absurd cc

  logged : (c : ForeignDevice) → ForeignFor c d p → ForeignFor (record c { logs = true }) d (record p { logs = true })
  logged c h = record { state = h.state; steps = h.steps; outputs_sent = h.outputs_sent; wiring = h.wiring; faults = h.faults; logs = refl }

  asked_setting : (number receiver : ℕ) (body : Cfg) (setting : SettingWay) (c : ForeignDevice) (out : List Send) → SetTo d p body setting c
      → out ≡ map (reply to (request number receiver (Setting body)) next) (verdicts_of setting) → HasAnswersOut d p to (request number receiver (Setting body)) next (setting_meaning setting) c out
  asked_setting number receiver body (settings.Only refused) c out (e, h) o =
      let asked : Asked = Setting body in
      record {
        out_is = rw e o;
        few = rw e (omega arith);
        entries = refl;
        last = λ i a g. refl;
        after = λ i a g. only (verdict refused) a (λ b. ForeignFor c d (foreign_answered d p asked b)) i (subst (λ (l : List SlaveAnswer). slice_get l i ≡ Some a) e g) h;
        handed = λ t. absurd cc;
      }
  asked_setting number receiver body settings.Free c out (e, h, same) o =
      let asked : Asked = Setting body in
      record {
        out_is = rw e o;
        few = rw e (omega arith);
        entries = refl;
        last = λ i a g. refl;
        after = λ i a g. two Ack (Nack ValueRange) a (λ j b. ForeignFor c d (foreign_answered d p asked b)) i (subst (λ (l : List SlaveAnswer). slice_get l i ≡ Some a) e g) (subst (λ (q : ForeignPlant). ForeignFor c d q) (sym same) h) h;
        handed = λ t. absurd cc;
      }
  asked_setting number receiver body (settings.Logging None) c out (e, h, same) o =
      let asked : Asked = Setting body in
      record {
        out_is = rw e o;
        few = rw e (omega arith);
        entries = refl;
        last = λ i a g. refl;
        after = λ i a g. two (Nack NotSupported) Ack a (λ j b. ForeignFor (settled meanings.Logging j c) d (foreign_answered d p asked b)) i (subst (λ (l : List SlaveAnswer). slice_get l i ≡ Some a) e g) h
            (subst (λ (q : ForeignPlant). ForeignFor (record c { logs = true }) d q) (sym same) (logged c h));
        handed = λ t. absurd cc;
      }
  asked_setting number receiver body (settings.Logging (Some code)) c out (e, h, same) o =
      let asked : Asked = Setting body in
      record {
        out_is = rw e o;
        few = rw e (omega arith);
        entries = refl;
        last = λ i a g. refl;
        after = λ i a g. two (Nack NotSupported) (Nack code) a (λ j b. ForeignFor c d (foreign_answered d p asked b)) i (subst (λ (l : List SlaveAnswer). slice_get l i ≡ Some a) e g) h h;
        handed = λ t. absurd cc;
      }

  pub setting_asked : (r : SlaveRequest) (body : Cfg) (setting : SettingWay) (c : ForeignDevice) (out : List Send) → r.asked ≡ Setting body → SetTo d p body setting c
      → out ≡ map (reply to r next) (verdicts_of setting) → HasAnswersOut d p to r next (setting_meaning setting) c out
  setting_asked r body setting c out asked h o =
      subst (λ (x : Asked). HasAnswersOut d p to (request r.number r.receiver x) next (setting_meaning setting) c out) (sym asked)
      (asked_setting r.number r.receiver body setting c out h (o ∙ ap (λ (x : Asked). map (reply to (request r.number r.receiver x) next) (verdicts_of setting)) asked))

  -- entries are asked for
  asked_log : (number receiver category most : ℕ) (c : ForeignDevice) (out : List Send) (b : Bool) → is_category category ≡ b → ForeignFor c d p
      → (let r = request number receiver (Question (inf.Log category most)) in out ≡ map (reply to r next) (log_answers category) ++ heads (log_meaning category) to r)
      → HasAnswersOut d p to (request number receiver (Question (inf.Log category most))) next (log_meaning category) c out
  asked_log number receiver category most c out true e h o =
      let asked : Asked = Question (inf.Log category most) in
      record {
        out_is = o;
        few = rw e (omega arith);
        entries = rw e refl;
        last = λ i a g. rw e refl;
        after = λ i a g. rw e (only (Nack NotSupported) a (λ b. ForeignFor c d (foreign_answered d p asked b)) i (rw e at g) h);
        handed = λ t. h;
      }
  asked_log number receiver category most c out false e h o =
      let asked : Asked = Question (inf.Log category most) in
      record {
        out_is = o;
        few = rw e (omega arith);
        entries = rw e refl;
        last = λ i a g. rw e refl;
        after = λ i a g. rw e (two (Nack NotSupported) (Nack ValueRange) a (λ j b. ForeignFor c d (foreign_answered d p asked b)) i (rw e at g) h h);
        handed = λ t. h;
      }

  pub log_asked : (r : SlaveRequest) (category most : ℕ) (c : ForeignDevice) (out : List Send) → r.asked ≡ Question (inf.Log category most) → ForeignFor c d p
      → out ≡ map (reply to r next) (log_answers category) ++ heads (log_meaning category) to r → HasAnswersOut d p to r next (log_meaning category) c out
  log_asked r category most c out asked h o =
      subst (λ (x : Asked). HasAnswersOut d p to (request r.number r.receiver x) next (log_meaning category) c out) (sym asked)
      (asked_log r.number r.receiver category most c out (is_category category) refl h
      (o ∙ ap (λ (x : Asked). map (reply to (request r.number r.receiver x) next) (log_answers category) ++ heads (log_meaning category) to (request r.number r.receiver x)) asked))
