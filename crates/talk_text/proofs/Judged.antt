-- What the reader takes and refuses is what the judging says.
use Rattle.std.proofs.Common.{◌≡◌, ℕ, ◌+◌, ◌-◌, Bool, true, false, not, cond, ◌||◌, nat_lt, List, [], ◌∷◌, ◌++◌, length, Option, Some, None, Result, Ok, Err, refl, sym, ap, ◌∙◌, subst, arith, if◌then◌else◌, append-nil, append_assoc}
use Rattle.std.specs.Prelude.{codes}
use Rattle.std.specs.Str.{is_utf8}
use Rattle.std.specs.Str.Lines.{lines}
use Rattle.std.proofs.Math.Seq.{take-length}
use Rattle.std.proofs.Math.Bool.{or-false}
use Rattle.std.proofs.lemmas.Bool.{and_parts, lt-ltb}
use Rattle.std.proofs.lemmas.List.{take_at}
use Rattle.std.proofs.lemmas.List.Elements.{All-push}
use Rattle.std.proofs.lemmas.List.Folds.{list_any-append}
use Rattle.std.proofs.lemmas.Option.{slice_get_past}
use Rattle.std.proofs.lemmas.Slice.Eq.{bytes_eq-Decides}
use Rattle.pdu_layout.specs.Message.{Message}
use Rattle.pdu_layout.specs.Reading.{spelling}
use Rattle.pdu_text.specs.declared.reasons.PduTextWhy.{PduTextWhy}
use Rattle.pdu_text.specs.Machine.{text_said}
use Rattle.text_lines.specs.Texts.{words, is_skipped}
use Rattle.text_lines.specs.Causes.{◌>>=◌, or_else, refused_if, unless}
use Rattle.text_lines.specs.Runs.{run_of}
use Rattle.text_lines.specs.Readings.{FirstBad}
use Rattle.text_lines.proofs.Results.{bind_ok, given, given_same}
use Rattle.text_lines.proofs.Runs.{Judges, run_ok, run_err}
use Rattle.text_lines.specs.declared.reasons.TextWhy.{TextWhy}
use Rattle.text_lines.specs.declared.reasons.TextWhy.TheVariants as why
use Rattle.text_lines.specs.declared.reasons.TextFault.{TextFault}
use Rattle.slave_desc.specs.declared.descriptions.SlaveDesc.{SlaveDesc}
use Rattle.slave_desc.specs.Descriptions.{IsDesc}
use Rattle.desc_text.specs.Judging as block
use Rattle.desc_text.specs.Judging.{why_end}
use Rattle.desc_text.specs.Said.{items_in}
use Rattle.desc_text.specs.Machine as machine
use Rattle.desc_text.specs.Reads.{is_desc_read}
use Rattle.desc_text.proofs.Held.{Holds, holds_nothing}
use Rattle.desc_text.proofs.Judged.{HoldsLines, line_ok, line_err, end_ok, end_err, items_push, slice_get-at, unless_ok}
use Rattle.desc_text.proofs.Apart.{end_none}
use Rattle.desc_text.proofs.Ranges.{items_desc}
use Rattle.desc_text.specs.declared.items.Item.{Item}
use Rattle.desc_text.specs.declared.partials.Partial.{Partial}
use Rattle.talk_text.specs.Talks.{AreTalk, IsTalk, SaysEvents, SayAll}
use Rattle.talk_text.proofs.Messages.{tells}
use Rattle.talk_text.specs.Judging.{first_is, is_begin, has_begun, why_more, why_talk_block, why_message, why_event, why_talk_entry, talk_why_at}
use Rattle.talk_text.specs.Machine.{talk_opened, stage_begun, block_kept, message_event, event_said, added, take_talk_line, talk_finished, stage_at_start}
use Rattle.talk_text.specs.declared.events.Talk.{Talk}
use Rattle.talk_text.specs.declared.events.TalkEvent.{TalkEvent}
use Rattle.talk_text.specs.declared.events.TalkEvent.TheVariants as talk
use Rattle.talk_text.specs.declared.stages.Stage.{Stage}
use Rattle.talk_text.specs.declared.stages.Stage.TheVariants.{Block, Events}

-- what holds of the lines that are done
abbrev pub HoldsStage : List (List ℕ) → Stage → Type 0
HoldsStage done (Block p) = HoldsLines done p × (has_begun done ≡ false)
HoldsStage done (Events t) = AreTalk done t × (has_begun done ≡ true)

-- ---- words

first_word : (word : List ℕ) (ws : List (List ℕ)) → first_is word ws ≡ true → why_more ws ≡ None → ws ≡ word ∷ []
first_word word [] e m = absurd cc
first_word word (w ∷ []) e m = ap (λ (x : List ℕ). x ∷ []) ((bytes_eq-Decides w word).0 e)
first_word word (w ∷ v ∷ ws) e m = absurd (more ws m)
  where
    more : (ws : List (List ℕ)) → refused_if (nat_lt 1 (length (w ∷ v ∷ ws))) why.Words ≡ None → ⊥
    more ws m = some_more _ (two ws) m
      where
        two : (ws : List (List ℕ)) → nat_lt 1 (length (w ∷ v ∷ ws)) ≡ true
        two ws = lt-ltb 1 (length (w ∷ v ∷ ws)) (omega arith)

        some_more : (b : Bool) → b ≡ true → refused_if b why.Words ≡ None → ⊥
        some_more true e m = cc
        some_more false e m = cc

-- ---- the events

say_more : (ls : List (List ℕ)) (line : List ℕ) (events es : List TalkEvent) → SayAll ls events → is_utf8 line ≡ true → SaysEvents line es → SayAll (ls ++ line ∷ []) (events ++ es)
say_more [] line events es h u s = (es, [], ap (λ (x : List TalkEvent). x ++ es) h ∙ sym (append-nil es), u, s, refl)
say_more (l ∷ ls) line events es h u s =
    (h.0, h.1 ++ es, ap (λ (x : List TalkEvent). x ++ es) h.2 ∙ append_assoc h.0 h.1 es, h.3, h.4, say_more ls line h.1 es h.5 u s)

talk_more : (done : List (List ℕ)) (line : List ℕ) (t : Talk) (es : List TalkEvent) → AreTalk done t → is_utf8 line ≡ true → SaysEvents line es
    → AreTalk (done ++ line ∷ []) (record t { events = t.events ++ es })
talk_more done line t es a u s = record {
  block = a.block;
  begin = a.begin;
  said = a.said ++ line ∷ [];
  whole = ap (λ (l : List (List ℕ)). l ++ line ∷ []) a.whole ∙ append_assoc a.block (a.begin ∷ a.said) (line ∷ []);
  each = a.each;
  describes = a.describes;
  utf8 = a.utf8;
  begins = a.begins;
  says = say_more a.said line t.events es a.says u s;
}

-- ---- what the judging says after the lines that are done

pub at_next : (done : List (List ℕ)) (line : List ℕ) (rest : List (List ℕ)) → talk_why_at (done ++ line ∷ rest) (length done + 1) ≡ why_talk_entry (Some line) done
at_next done line rest =
    let before : length done + 1 - 1 ≡ length done = omega arith in
    rw (before, slice_get-at done line rest, take_at done (line ∷ rest) (length done) refl) refl

pub at_end : (done : List (List ℕ)) → talk_why_at done (length done + 1) ≡ why_talk_entry None done
at_end done =
    let before : length done + 1 - 1 ≡ length done = omega arith in
    rw (before, slice_get_past done (length done) (omega arith), take-length done) refl

began : (done : List (List ℕ)) (line : List ℕ) → has_begun (done ++ line ∷ []) ≡ (has_begun done || is_begin line)
began done line = list_any-append is_begin done (line ∷ []) ∙ ap (λ (b : Bool). has_begun done || b) (or-false (is_begin line))

pub in_block : (done : List (List ℕ)) (line : List ℕ) (b : Bool) → has_begun done ≡ false → is_begin line ≡ b
    → why_talk_entry (Some line) done ≡ (if b then or_else (why_end (items_in done)) (why_more (words line)) else block.why_line (items_in done) line)
in_block done line b h e =
    ap (λ (x : Bool). cond x (why_event line) (why_talk_block done line)) h
    ∙ ap (λ (x : Bool). cond x (or_else (why_end (items_in done)) (why_more (words line))) (block.why_line (items_in done) line)) e

pub in_events : (done : List (List ℕ)) (line : List ℕ) → has_begun done ≡ true → why_talk_entry (Some line) done ≡ why_event line
in_events done line h = ap (λ (x : Bool). cond x (why_event line) (why_talk_block done line)) h

-- ---- a line of the block

abbrev Took : List (List ℕ) → List ℕ → List (List ℕ) → Stage → Type 0
Took done line rest t = (talk_why_at (done ++ line ∷ rest) (length done + 1) ≡ None) × HoldsStage (done ++ line ∷ []) t

abbrev events : SlaveDesc → Stage
events d = Events (record { desc = d; events = [] })

module _ (done rest : List (List ℕ)) (line : List ℕ) (p : Partial) (h : HoldsLines done p) (not_yet : has_begun done ≡ false) where
  block_more : is_begin line ≡ false → (t : Stage) → (machine.take_line p line >>= block_kept) ≡ Ok t → Took done line rest t
  block_more isnt t e =
      let q = bind_ok (machine.take_line p line) block_kept t e in
      let took = line_ok (items_in done) p h.0 line q.0 q.1 in
      let holds : HoldsLines (done ++ line ∷ []) q.0 =
      (subst (λ (l : List Item). Holds l q.0) (sym (items_push done line)) took.2, All-push (λ line. is_desc_read line ≡ true) done line h.1 took.1) in
      let still : has_begun (done ++ line ∷ []) ≡ false = began done line ∙ ap (λ (b : Bool). b || is_begin line) not_yet ∙ isnt in
      (at_next done line rest ∙ in_block done line false not_yet isnt ∙ took.0, subst (HoldsStage (done ++ line ∷ [])) (given_same (Block q.0) t q.2) (holds, still))

  block_closed : is_begin line ≡ true → (t : Stage) → stage_begun p (words line) ≡ Ok t → Took done line rest t
  block_closed is t e =
      let q = bind_ok (machine.finished p) (talk_opened (words line)) t e in
      let describes = end_ok (items_in done) p h.0 q.0 q.1 in
      let o = unless_ok (why_more (words line)) (given (events q.0)) t q.2 in
      let parts = and_parts (is_utf8 line) (first_is (codes "begin") (words line)) is in
      let now : has_begun (done ++ line ∷ []) ≡ true = began done line ∙ ap (λ (b : Bool). b || is_begin line) not_yet ∙ is in
      let right : or_else (why_end (items_in done)) (why_more (words line)) ≡ None =
      ap (λ (x : Option TextWhy). or_else x (why_more (words line))) (end_none (items_in done) q.0 describes) ∙ o.0 in (
        at_next done line rest ∙ in_block done line true not_yet is ∙ right,
        subst (HoldsStage (done ++ line ∷ [])) (given_same (events q.0) t o.1) (
          record {
            block = done;
            begin = line;
            said = [];
            whole = refl;
            each = h.1;
            describes = describes;
            utf8 = parts.0;
            begins = first_word (codes "begin") (words line) parts.1 o.0;
            says = refl;
          },
          now,
        ),
      )

  block_took : (b : Bool) → is_begin line ≡ b → (t : Stage) → (if b then stage_begun p (words line) else (machine.take_line p line >>= block_kept)) ≡ Ok t → Took done line rest t
  block_took true is t e = block_closed is t e
  block_took false is t e = block_more is t e

  kept_never : (r : Result Partial TextWhy) (w : TextWhy) → (r >>= block_kept) ≡ Err w → r ≡ Err w
  kept_never (Ok q) w e = absurd cc
  kept_never (Err v) w e = cc

  unopened : (o : Option TextWhy) (s : Stage) (w : TextWhy) → unless o (given s) ≡ Err w → o ≡ Some w
  unopened None s w e = absurd cc
  unopened (Some v) s w e = cc

  closed_by : (r : Result SlaveDesc TextWhy) (w : TextWhy) → machine.finished p ≡ r → (r >>= talk_opened (words line)) ≡ Err w → or_else (why_end (items_in done)) (why_more (words line)) ≡ Some w
  closed_by (Ok d) w is e =
      ap (λ (x : Option TextWhy). or_else x (why_more (words line))) (end_none (items_in done) d (end_ok (items_in done) p h.0 d is)) ∙ unopened (why_more (words line)) (events d) w e
  closed_by (Err v) w is e =
      let same : v ≡ w = cc in
      ap (λ (x : Option TextWhy). or_else x (why_more (words line))) (end_err (items_in done) p h.0 v is) ∙ ap (λ (x : TextWhy). Some x) same

  block_refused : (b : Bool) → is_begin line ≡ b → (w : TextWhy) → (if b then stage_begun p (words line) else (machine.take_line p line >>= block_kept)) ≡ Err w
      → talk_why_at (done ++ line ∷ rest) (length done + 1) ≡ Some w
  block_refused true is w e = at_next done line rest ∙ in_block done line true not_yet is ∙ closed_by (machine.finished p) w refl e
  block_refused false is w e = at_next done line rest ∙ in_block done line false not_yet is ∙ line_err (items_in done) p h.0 line w (kept_never (machine.take_line p line) w e)

-- ---- the line of an event

module _ (done rest : List (List ℕ)) (line : List ℕ) (t : Talk) (a : AreTalk done t) (yet : has_begun done ≡ true) where
  abbrev Judged : Option TextWhy → Stage → Type 0
  Judged o s = (o ≡ None) × HoldsStage (done ++ line ∷ []) s

  now : has_begun (done ++ line ∷ []) ≡ true
  now = began done line ∙ ap (λ (b : Bool). b || is_begin line) yet

  event_more : (e : TalkEvent) (s : Stage) → is_utf8 line ≡ true → SaysEvents line (e ∷ []) → added t e ≡ given s → HoldsStage (done ++ line ∷ []) s
  event_more e s u says is =
      subst (HoldsStage (done ++ line ∷ [])) (given_same (Events (record t { events = t.events ++ e ∷ [] })) s is) (talk_more done line t (e ∷ []) a u says, now)

  turn_took : (o : Option TextWhy) → why_more (words line) ≡ o → first_is (codes "turn") (words line) ≡ true → is_utf8 line ≡ true → (s : Stage)
      → (unless o (Ok talk.Turn) >>= added t) ≡ Ok s → Judged o s
  turn_took None m f u s e = (refl, event_more talk.Turn s u (first_word (codes "turn") (words line) f m) e)
  turn_took (Some w) m f u s e = absurd cc

  message_took : (r : Result Message PduTextWhy) → text_said line ≡ r → is_utf8 line ≡ true → (s : Stage) → (message_event r >>= added t) ≡ Ok s → Judged (why_message r) s
  message_took (Ok m) is u s e = (refl, event_more (talk.Message (spelling m)) s u (tells line m is) e)
  message_took (Err w) is u s e = absurd cc

  said_took : (b : Bool) → first_is (codes "turn") (words line) ≡ b → is_utf8 line ≡ true → (s : Stage)
      → ((if b then unless (why_more (words line)) (Ok talk.Turn) else message_event (text_said line)) >>= added t) ≡ Ok s
      → Judged (if b then why_more (words line) else why_message (text_said line)) s
  said_took true f u s e = turn_took (why_more (words line)) refl f u s e
  said_took false f u s e = message_took (text_said line) refl u s e

  skipped : is_utf8 line ≡ true → is_skipped (words line) ≡ true → (s : Stage) → given (Events t) ≡ given s → HoldsStage (done ++ line ∷ []) s
  skipped u k s e =
      let more = talk_more done line t [] a u k in
      subst (HoldsStage (done ++ line ∷ [])) (ap (λ (es : List TalkEvent). Events (record t { events = es })) (append-nil t.events) ∙ given_same (Events t) s e) (more, now)

  event_took : (u k : Bool) → is_utf8 line ≡ u → is_skipped (words line) ≡ k → (s : Stage)
      → (if not u then Err why.NotUtf8 else (if k then Ok (Events t) else (event_said line >>= added t))) ≡ Ok s
      → Judged (if not u then Some why.NotUtf8 else (if k then None else (if first_is (codes "turn") (words line) then why_more (words line) else why_message (text_said line)))) s
  event_took false k u is s e = absurd cc
  event_took true true u is s e = (refl, skipped u is s e)
  event_took true false u is s e = said_took (first_is (codes "turn") (words line)) refl u s e

  turn_refused : (o : Option TextWhy) (w : TextWhy) → (unless o (Ok talk.Turn) >>= added t) ≡ Err w → o ≡ Some w
  turn_refused None w e = absurd cc
  turn_refused (Some v) w e = cc

  message_refused : (r : Result Message PduTextWhy) (w : TextWhy) → (message_event r >>= added t) ≡ Err w → why_message r ≡ Some w
  message_refused (Ok m) w e = absurd cc
  message_refused (Err v) w e = cc

  said_refused : (b : Bool) (w : TextWhy) → ((if b then unless (why_more (words line)) (Ok talk.Turn) else message_event (text_said line)) >>= added t) ≡ Err w
      → (if b then why_more (words line) else why_message (text_said line)) ≡ Some w
  said_refused true w e = turn_refused (why_more (words line)) w e
  said_refused false w e = message_refused (text_said line) w e

  event_refused : (u k : Bool) (w : TextWhy) → (if not u then Err why.NotUtf8 else (if k then Ok (Events t) else (event_said line >>= added t))) ≡ Err w
      → (if not u then Some why.NotUtf8 else (if k then None else (if first_is (codes "turn") (words line) then why_more (words line) else why_message (text_said line)))) ≡ Some w
  event_refused false k w e = cc
  event_refused true true w e = absurd cc
  event_refused true false w e = said_refused (first_is (codes "turn") (words line)) w e

-- ---- the whole text

owes_taken : (done rest : List (List ℕ)) (line : List ℕ) (s t : Stage) → HoldsStage done s → take_talk_line s line ≡ Ok t → Took done line rest t
owes_taken done rest line (Block p) t h e = block_took done rest line p h.0 h.1 (is_begin line) refl t e
owes_taken done rest line (Events a) t h e =
    let k = event_took done rest line a h.0 h.1 (is_utf8 line) (is_skipped (words line)) refl refl t e in
    (at_next done line rest ∙ in_events done line h.1 ∙ k.0, k.1)

owes_refused : (done rest : List (List ℕ)) (line : List ℕ) (s : Stage) (w : TextWhy) → HoldsStage done s → take_talk_line s line ≡ Err w → talk_why_at (done ++ line ∷ rest) (length done + 1) ≡ Some w
owes_refused done rest line (Block p) w h e = block_refused done rest line p h.0 h.1 (is_begin line) refl w e
owes_refused done rest line (Events a) w h e = at_next done line rest ∙ in_events done line h.1 ∙ event_refused done rest line a h.0 h.1 (is_utf8 line) (is_skipped (words line)) w e

owes_end : (done : List (List ℕ)) (s : Stage) (w : TextWhy) → HoldsStage done s → talk_finished s ≡ Err w → talk_why_at done (length done + 1) ≡ Some w
owes_end done (Block p) w h e =
    let same : why.Missing ≡ w = cc in
    at_end done ∙ ap (λ (x : Bool). cond x None (Some why.Missing)) h.1 ∙ ap (λ (x : TextWhy). Some x) same
owes_end done (Events a) w h e = absurd cc

judges : Judges take_talk_line talk_finished talk_why_at HoldsStage
judges = record { taken = owes_taken; refused = owes_refused; ended = owes_end }

at_last : (done : List (List ℕ)) (s : Stage) (t : Talk) → HoldsStage done s → talk_finished s ≡ Ok t → AreTalk done t
at_last done (Block p) t h e = absurd cc
at_last done (Events a) t h e = subst (AreTalk done) (given_same a t e) h.0

holds_none : HoldsLines [] machine.nothing
holds_none = (holds_nothing, λ k x below. absurd (omega arith))

-- the two answers
pub reads : (text : List ℕ) (t : Talk) → run_of take_talk_line talk_finished 1 stage_at_start (lines text) ≡ Ok t → IsTalk text t
reads text t e =
    let r = run_ok take_talk_line talk_finished talk_why_at HoldsStage judges [] (lines text) stage_at_start t (holds_none, refl) e in
    at_last (lines text) r.0 t r.1 r.2

pub first_bad : (text : List ℕ) (f : TextFault) → run_of take_talk_line talk_finished 1 stage_at_start (lines text) ≡ Err f → FirstBad talk_why_at text f.line f.why
first_bad text f e = run_err take_talk_line talk_finished talk_why_at HoldsStage judges [] (lines text) stage_at_start f (holds_none, refl) (λ n below some. absurd (omega arith)) e

pub talk_desc : (text : List ℕ) (t : Talk) → IsTalk text t → IsDesc t.desc
talk_desc text t a = items_desc a.block t.desc a.describes
