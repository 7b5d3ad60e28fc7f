-- What is told at a turn.
use Rattle.std.proofs.Common.{◌≡◌, ℕ, List, [], ◌∷◌, ◌++◌, Option, Some, None, refl, ap, ◌∙◌, append_assoc}
use Rattle.dcp_types.specs.declared.addresses.Address.{Address}
use Rattle.dcp_ends.specs.Events.{Send}
use Rattle.slave_log.specs.declared.lines.LogLine.{LogLine}
use Rattle.slave_log.specs.Shelves.{Log, noted, to_send}
use Rattle.slave_spec.specs.declared.words.LogRemark.{LogRemark}
use Rattle.slave_spec.specs.Transport.{Notice, notice_sends}
use Rattle.slave_spec.specs.Requests.{notices, told}

told_then : (to : Address) (id : ℕ) (o : Option LogLine) (rest : List Notice) → notice_sends to id (told o []) ++ notice_sends to id rest ≡ notice_sends to id (told o rest)
told_then to id None rest = refl
told_then to id (Some entry) rest = refl

-- two entries, one after the other
pub both_told : (to : Address) (id : ℕ) (log : Log) (step : ℕ) (n m : LogRemark)
    → notice_sends to id (notices log step (n ∷ [])) ++ notice_sends to id (notices (noted log n.category n.level n.code step) step (m ∷ [])) ≡ notice_sends to id (notices log step (n ∷ m ∷ []))
both_told to id log step n m = told_then to id (to_send log n.category n.level n.code step) _

-- a message, then what two entries send
pub in_turn : (before first second third : List Send) (a : Send) (x y z : List Send) → before ≡ [] → first ≡ before ++ a ∷ [] → second ≡ first ++ x → third ≡ second ++ y → x ++ y ≡ z → third ≡ a ∷ z
in_turn before first second third a x y z none f s t e =
    t ∙ ap (λ (l : List Send). l ++ y) (s ∙ ap (λ (l : List Send). l ++ x) (f ∙ ap (λ (l : List Send). l ++ a ∷ []) none)) ∙ ap (λ (l : List Send). a ∷ l) e

-- a message, then what an entry sends
pub and_then : (before first second : List Send) (a : Send) (x : List Send) → first ≡ before ++ a ∷ [] → second ≡ first ++ x → second ≡ before ++ a ∷ x
and_then before first second a x f s = s ∙ ap (λ (l : List Send). l ++ x) f ∙ append_assoc before (a ∷ []) x
