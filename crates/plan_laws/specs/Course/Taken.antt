-- What the exchanges with a slave tell of it: the settings that it took, its resets, and whether its outputs are ready. Exchanges
-- have the newest first.
use Rattle.std.specs.Prelude.{ℕ, ◌+◌, ◌==◌, ◌&&◌, Bool, true, false, if◌then◌else◌, Option, Some, None, List, [], ◌∷◌, int_le}
use Rattle.pdu_layout.specs.declared.messages.Stc.TheVariants as stc
use Rattle.pdu_layout.specs.declared.messages.Pdu.TheVariants as pdu
use Rattle.pdu_layout.specs.declared.messages.Cfg.{Cfg}
use Rattle.pdu_layout.specs.Fields.{FieldValue}
use Rattle.pdu_layout.specs.Fields.FieldValue.{Number, Signed}
use Rattle.pdu_layout.specs.Message.{message_of}
use Rattle.log_spec.specs.Messages.{Note}
use Rattle.log_spec.specs.Log.{DecidedRequest}
use Rattle.slave_spec.specs.declared.words.Asked.{Asked}
use Rattle.slave_spec.specs.declared.words.Asked.TheVariants.{Change, Setting}
use Rattle.slave_spec.specs.Heard.{Heard, Asks, Brings, Nothing, heard_as}

-- what a request asks, as a slave hears it
abbrev pub asked_heard : Heard → Option Asked
asked_heard (Asks r) = Some r.asked
asked_heard (Brings number id payload) = None
asked_heard Nothing = None

abbrev pub asked_in : Note → Option Asked
asked_in n = asked_heard (heard_as (Some n.message))

abbrev pub is_acknowledged : Note → Bool
is_acknowledged a = a.message.code == 176

-- ---- the settings that were taken
abbrev pub setting_taken : Option Asked → Bool → List Cfg → List Cfg
setting_taken (Some (Setting body)) true rest = body ∷ rest
setting_taken asked acked rest = rest

abbrev pub settings_taken : List DecidedRequest → List Cfg
settings_taken [] = []
settings_taken (e ∷ es) = setting_taken (asked_in e.request) (is_acknowledged e.answer) (settings_taken es)

-- ---- how often it was reset
abbrev pub reset_taken : Option Asked → Bool → ℕ → ℕ
reset_taken (Some (Change named stc.Reset)) true n = n + 1
reset_taken asked acked n = n

abbrev pub resets_taken : List DecidedRequest → ℕ
resets_taken [] = 0
resets_taken (e ∷ es) = reset_taken (asked_in e.request) (is_acknowledged e.answer) (resets_taken es)

-- ---- whether INITIALIZED was told since the newest reset
abbrev pub names_initialized : List FieldValue → Bool
names_initialized (Number number ∷ Number sender ∷ Number state ∷ more) = state == 7
names_initialized values = false

abbrev pub tells_initialized : Note → Bool
tells_initialized a = (a.message.code == 178) && names_initialized a.message.values

abbrev pub told_after : Option Asked → Bool → Bool → Bool → Bool
told_after (Some (Change named stc.Reset)) true tells before = false
told_after asked acked tells before = if tells then true else before

abbrev pub told_since : List DecidedRequest → Bool
told_since [] = false
told_since (e ∷ es) = told_after (asked_in e.request) (is_acknowledged e.answer) (tells_initialized e.answer) (told_since es)

-- ---- the same settings
abbrev pub same_field : FieldValue → FieldValue → Bool
same_field (Number a) (Number b) = a == b
same_field (Signed a) (Signed b) = int_le a b && int_le b a
same_field v w = false

abbrev pub same_fields : List FieldValue → List FieldValue → Bool
same_fields [] [] = true
same_fields (v ∷ vs) (w ∷ ws) = same_field v w && same_fields vs ws
same_fields vs ws = false

-- they are asked for by one message
abbrev pub same_setting : Cfg → Cfg → Bool
same_setting a b =
    let m = message_of (pdu.Cfg 0 0 a) in
    let n = message_of (pdu.Cfg 0 0 b) in
    (m.code == n.code) && same_fields m.values n.values

abbrev pub same_settings : List Cfg → List Cfg → Bool
same_settings [] [] = true
same_settings (a ∷ as') (b ∷ bs) = same_setting a b && same_settings as' bs
same_settings as' bs = false
