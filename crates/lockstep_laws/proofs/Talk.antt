-- The conversation with one slave.
use Rattle.std.proofs.Common.{◌≡◌, ℕ, ◌+◌, ◌%◌, ◌<◌, ◌≤◌, Bool, true, false, if◌then◌else◌, ◌⊎◌, inl, inr, Option, Some, None, List, [], ◌∷◌, map, length, refl, sym, ap, ◌∙◌, subst, arith}
use Rattle.std.specs.List.{cons_option}
use Rattle.std.proofs.lemmas.Bool.Decides.{nat_tests}
use Rattle.std.proofs.lemmas.List.{length-map}
use Rattle.dcp_types.specs.declared.addresses.Address.{Address}
use Rattle.log_spec.specs.Messages.{Note, answer_in}
use Rattle.seq_window.specs.declared.places.Place.TheVariants.{Ahead}
use Rattle.seq_window.specs.Window.{place}
use Rattle.log_spec.specs.Channel.{by_ordinal, at_ordinal, Repeats, IsRegularChannel}
use Rattle.log_spec.specs.Log.{Parties, role_heard, DecidedRequest}
use Rattle.log_spec.specs.Moves.{Move, Asks, Comes, Tells, Hears, Brings, Turns, Rests, Other, decides, with_newest, decided_after}
use Rattle.log_spec.proofs.Channel.{IsAt, tops, grown_again, grown_next}
use Rattle.log_spec.proofs.Moves.{asked, told}
use Rattle.lockstep_laws.specs.Slaves.{Post, Desk, answers_of, Drops, Handles, tail, ServesNote, IsFirstPost, SlaveMay}

-- one list is the other, or lacks its newest
abbrev pub Behind : {A : Type 0} → List A → List A → Type 0
Behind {A} xs ys = (xs ≡ ys) ⊎ ((y : A) × (ys ≡ y ∷ xs))

abbrev pub IsNumbered : List Note → Type 0
IsNumbered [] = Unit {0}
IsNumbered (n ∷ ns) = (n.number ≡ length ns % 65536) × IsNumbered ns

-- what is owed is no answer, or the newest answer, which was sent or not
abbrev pub Owes : List Note → List Note → List Note → Type 0
Owes [] given sent = sent ≡ given
Owes (a ∷ []) given sent = (given ≡ a ∷ sent) ⊎ ((sent ≡ given) × Repeats given a)
Owes (a ∷ b ∷ more) given sent = ⊥

abbrev pub requests_of : List DecidedRequest → List Note
requests_of es = map (λ e. e.request) es

abbrev pub given_of : List DecidedRequest → List Note
given_of es = map (λ e. e.answer) es

pub taken_length : (es : List DecidedRequest) → length (requests_of es) ≡ length es
taken_length es = length-map es (λ e. e.request)

pub given_length : (es : List DecidedRequest) → length (given_of es) ≡ length es
given_length es = length-map es (λ e. e.answer)

-- the requests and the answers sent, by ordinal; what is decided; what is served, and which answers are owed
pub record Talk (accepts : Note → Bool) (rs sent : List Note) (ds served : List DecidedRequest) (owed : List Note) : Type 0 where
  pub taken : Behind (requests_of served) rs
  pub numbers : IsNumbered (given_of served)
  pub owes : Owes owed (given_of served) sent
  pub decided : Behind ds served
  pub asked : length rs ≤ length ds + 1
  pub heard : length ds ≤ length sent
  pub first : (r : Note) → at_ordinal rs 0 ≡ Some r → accepts r ≡ true

module _ (accepts : Note → Bool) where
  -- ---- a request comes
  dropped : (rs sent : List Note) (ds served : List DecidedRequest) → Talk accepts rs sent ds served [] → (owed : List Note) → owed ≡ [] → Talk accepts rs sent ds served owed
  dropped rs sent ds served t owed e = let P : List Note → Type 0 = λ o. Talk accepts rs sent ds served o in subst P (sym e) t

  taking : (n a : Note) (rs sent : List Note) (ds served : List DecidedRequest) → length (requests_of served) ≡ length served → length (given_of served) ≡ length served
      → IsAt rs n → n.number ≡ length served % 65536 → a.number ≡ n.number → Talk accepts rs sent ds served [] → Talk accepts rs sent ds (record { request = n; answer = a } ∷ served) (a ∷ [])
  taking n a rs sent ds served l k at next num t = grind (arith, nat_tests)

  again : (n : Note) (newest : DecidedRequest) (before : List DecidedRequest) (rs sent : List Note) (ds served : List DecidedRequest) → served ≡ newest ∷ before → Talk accepts rs sent ds served [] → Talk accepts rs sent ds served (newest.answer ∷ [])
  again n newest before rs sent ds served kept t = grind (arith, nat_tests)

  never_ahead : (n : Note) (rs sent : List Note) (ds served : List DecidedRequest) → length (requests_of served) ≡ length served → IsAt rs n → place n.number (length served % 65536) ≡ Ahead → Talk accepts rs sent ds served [] → ⊥
  never_ahead n rs sent ds served l at ahead t = grind (arith, nat_tests)

  never_refused : (n : Note) (rs sent : List Note) (ds served : List DecidedRequest) → IsAt rs n → served ≡ [] → accepts n ≡ false → Talk accepts rs sent ds served [] → ⊥
  never_refused n rs sent ds served at none no' t = grind (arith, nat_tests)

  -- ---- the others
  first_more : (n : Note) (rs : List Note) → (rs ≡ [] → accepts n ≡ true) → ((r : Note) → at_ordinal rs 0 ≡ Some r → accepts r ≡ true) → (r : Note) → at_ordinal (n ∷ rs) 0 ≡ Some r → accepts r ≡ true
  first_more n [] now before r at = let e : n ≡ r = cc in let P : Note → Type 0 = λ k. accepts k ≡ true in subst P e (now refl)
  first_more n (k ∷ rs) now before r at = let f = before r in grind (arith, nat_tests, f)

  asking : (n : Note) (rs sent : List Note) (ds served : List DecidedRequest) (owed : List Note) → length (requests_of served) ≡ length served → length ds ≡ length rs → (rs ≡ [] → accepts n ≡ true) → Talk accepts rs sent ds served owed → Talk accepts (n ∷ rs) sent ds served owed
  asking n rs sent ds served owed l closed first t = let f = first_more n rs first t.first in
      record { taken = more_taken t.taken t.decided; numbers = t.numbers; owes = t.owes; decided = t.decided; asked = omega (arith, closed); heard = t.heard; first = f }
    where
      more_taken : Behind (requests_of served) rs → Behind ds served → Behind (requests_of served) (n ∷ rs)
      more_taken a b = grind (arith, closed, l)

  hearing : (a : Note) (rs sent : List Note) (ds served : List DecidedRequest) (owed : List Note) → length (requests_of served) ≡ length served → length (given_of served) ≡ length served → length (given_of ds) ≡ length ds
      → IsAt sent a → (0 < length rs → (r : Note) × (rest : List Note) × (rs ≡ r ∷ rest) × (r.number ≡ length rest % 65536)) → Talk accepts rs sent ds served owed → Talk accepts rs sent (if decides a rs ds then with_newest rs a ds else ds) served owed
  hearing a rs sent ds served owed l g k i last t = grind (arith, nat_tests)

  telling : (a : Note) (rs sent : List Note) (ds served : List DecidedRequest) (owed : List Note) → Talk accepts rs sent ds served (a ∷ owed) → (Repeats sent a × Talk accepts rs sent ds served owed) ⊎ ((a.number ≡ length sent % 65536) × Talk accepts rs (a ∷ sent) ds served owed)
  telling a rs sent ds served owed t = grind (arith, nat_tests)

-- what is known of a conversation, from what was sent in its two channels
pub record Known (w : Parties) (accepts : Note → Bool) (ns ms : List Note) (ds : List DecidedRequest) (x : Desk) : Type 0 where
  pub requests : IsRegularChannel ns
  pub answers : IsRegularChannel ms
  pub talk : Talk accepts (by_ordinal ns) (by_ordinal ms) ds x.served (answers_of w x.owed)

pub last_of : (ns : List Note) → IsRegularChannel ns → 0 < length (by_ordinal ns) → (r : Note) × (rest : List Note) × (by_ordinal ns ≡ r ∷ rest) × (r.number ≡ length rest % 65536)
last_of [] reg some = absurd (omega arith)
last_of (n ∷ ns) reg some = let top = tops n ns reg in (n, top.rest, top.is, top.number)

-- what honesty gives at a move
abbrev pub Arrives : Move → List Note → List Note → Type 0
Arrives (Asks n) ns ms = Unit {0}
Arrives (Comes from receiver n) ns ms = IsAt (by_ordinal ns) n
Arrives (Tells to bytes) ns ms = Unit {0}
Arrives (Hears a) ns ms = IsAt (by_ordinal ms) a
Arrives (Brings from id n) ns ms = Unit {0}
Arrives Turns ns ms = Unit {0}
Arrives Rests ns ms = Unit {0}
Arrives Other ns ms = Unit {0}

-- the newest request again, or the next one
pub record IsNext (accepts : Note → Bool) (n : Note) (rs : List Note) (ds : List DecidedRequest) : Type 0 where
  pub closed : length ds ≡ length rs
  pub number : n.number ≡ length rs % 65536
  pub first : rs ≡ [] → accepts n ≡ true

abbrev pub AskMay : (Note → Bool) → Move → List Note → List DecidedRequest → Type 0
AskMay accepts (Asks n) rs ds = Repeats rs n ⊎ IsNext accepts n rs ds
AskMay accepts (Comes from receiver n) rs ds = Unit {0}
AskMay accepts (Tells to bytes) rs ds = Unit {0}
AskMay accepts (Hears a) rs ds = Unit {0}
AskMay accepts (Brings from id n) rs ds = Unit {0}
AskMay accepts Turns rs ds = Unit {0}
AskMay accepts Rests rs ds = Unit {0}
AskMay accepts Other rs ds = Unit {0}

module _ (w : Parties) (accepts : Note → Bool) where
  -- the machine goes on, or another message is sent
  goes_on : (ns ms : List Note) (ds : List DecidedRequest) (x y : Desk) → y.served ≡ x.served → answers_of w y.owed ≡ answers_of w x.owed → Known w accepts ns ms ds x → Known w accepts ns ms ds y
  goes_on ns ms ds x y same owed k = grind arith

  with_talk : (ns ms : List Note) (ds : List DecidedRequest) (x y : Desk) (served : List DecidedRequest) (owed : List Note) → y.served ≡ served → answers_of w y.owed ≡ owed → Known w accepts ns ms ds x → Talk accepts (by_ordinal ns) (by_ordinal ms) ds served owed → Known w accepts ns ms ds y
  with_talk ns ms ds x y served owed same owes k t = grind arith

  nothing_owed : (ns ms : List Note) (ds : List DecidedRequest) (x : Desk) → x.owed ≡ [] → Known w accepts ns ms ds x → Talk accepts (by_ordinal ns) (by_ordinal ms) ds x.served []
  nothing_owed ns ms ds x none k = let P : List Post → Type 0 = λ o. Talk accepts (by_ordinal ns) (by_ordinal ms) ds x.served (answers_of w o) in subst P none k.talk

  handles : (n : Note) (ns ms : List Note) (ds : List DecidedRequest) (x y : Desk) → IsAt (by_ordinal ns) n → x.owed ≡ [] → Handles w accepts n x y → Known w accepts ns ms ds x → Known w accepts ns ms ds y
  handles n ns ms ds x y at none (inl d) k = goes_on ns ms ds x y d.served (d.owes ∙ sym (ap (answers_of w) none)) k
  handles n ns ms ds x y at none (inr (inl h)) k =
      let t = taking accepts n h.answer (by_ordinal ns) (by_ordinal ms) ds x.served (taken_length x.served) (given_length x.served) at h.next h.number (nothing_owed ns ms ds x none k) in
      with_talk ns ms ds x y (record { request = n; answer = h.answer } ∷ x.served) (h.answer ∷ []) h.served h.owes k t
  handles n ns ms ds x y at none (inr (inr (inl h))) k =
      with_talk ns ms ds x y x.served (h.newest.answer ∷ []) h.served h.owes k (again accepts n h.newest h.before (by_ordinal ns) (by_ordinal ms) ds x.served h.kept (nothing_owed ns ms ds x none k))
  handles n ns ms ds x y at none (inr (inr (inr h))) k = absurd (by h.why)
    where
      by : (place n.number (length x.served % 65536) ≡ Ahead) ⊎ ((x.served ≡ []) × (accepts n ≡ false)) → ⊥
      by (inl ahead) = never_ahead accepts n (by_ordinal ns) (by_ordinal ms) ds x.served (taken_length x.served) at ahead (nothing_owed ns ms ds x none k)
      by (inr no') = never_refused accepts n (by_ordinal ns) (by_ordinal ms) ds x.served at no'.0 no'.1 (nothing_owed ns ms ds x none k)

  asks_known : (n : Note) (ns ms : List Note) (ds : List DecidedRequest) (x : Desk) → Repeats (by_ordinal ns) n ⊎ IsNext accepts n (by_ordinal ns) ds → Known w accepts ns ms ds x → Known w accepts (n ∷ ns) ms ds x
  asks_known n ns ms ds x (inl rep) k =
      let P : List Note → Type 0 = λ rs. Talk accepts rs (by_ordinal ms) ds x.served (answers_of w x.owed) in
      record { requests = (inl rep, k.requests); answers = k.answers; talk = subst P (sym (grown_again n ns k.requests rep)) k.talk }
  asks_known n ns ms ds x (inr new) k =
      let P : List Note → Type 0 = λ rs. Talk accepts rs (by_ordinal ms) ds x.served (answers_of w x.owed) in
      let t = asking accepts n (by_ordinal ns) (by_ordinal ms) ds x.served (answers_of w x.owed) (taken_length x.served) new.closed new.first k.talk in
      record { requests = (inr new.number, k.requests); answers = k.answers; talk = subst P (sym (grown_next n ns k.requests new.number)) t }

  tells_known : (ns ms : List Note) (ds : List DecidedRequest) (x y : Desk) (a : Note) → y.served ≡ x.served → answers_of w x.owed ≡ a ∷ answers_of w y.owed → Known w accepts ns ms ds x → Known w accepts ns (a ∷ ms) ds y
  tells_known ns ms ds x y a same owed k = by (telling accepts a (by_ordinal ns) (by_ordinal ms) ds y.served (answers_of w y.owed) (moved same owed k.talk))
    where
      P : List Note → Type 0
      P sent = Talk accepts (by_ordinal ns) sent ds y.served (answers_of w y.owed)

      moved : y.served ≡ x.served → answers_of w x.owed ≡ a ∷ answers_of w y.owed → Talk accepts (by_ordinal ns) (by_ordinal ms) ds x.served (answers_of w x.owed) → Talk accepts (by_ordinal ns) (by_ordinal ms) ds y.served (a ∷ answers_of w y.owed)
      moved e f t =
          let Q : List DecidedRequest → Type 0 = λ es. Talk accepts (by_ordinal ns) (by_ordinal ms) ds es (a ∷ answers_of w y.owed) in
          let R : List Note → Type 0 = λ os. Talk accepts (by_ordinal ns) (by_ordinal ms) ds x.served os in
          subst Q (sym e) (subst R f t)

      by : (Repeats (by_ordinal ms) a × Talk accepts (by_ordinal ns) (by_ordinal ms) ds y.served (answers_of w y.owed)) ⊎ ((a.number ≡ length (by_ordinal ms) % 65536) × Talk accepts (by_ordinal ns) (a ∷ by_ordinal ms) ds y.served (answers_of w y.owed)) → Known w accepts ns (a ∷ ms) ds y
      by (inl t) = record { requests = k.requests; answers = (inl t.0, k.answers); talk = subst P (sym (grown_again a ms k.answers t.0)) t.1 }
      by (inr t) = record { requests = k.requests; answers = (inr t.0, k.answers); talk = subst P (sym (grown_next a ms k.answers t.0)) t.1 }

  sends_first : (to : Address) (bytes : List ℕ) (owed : List Post) (o : Option Note) → IsFirstPost owed to bytes → answer_in (role_heard w bytes) ≡ o → answers_of w owed ≡ cons_option o (answers_of w (tail owed))
  sends_first to bytes [] o h e = absurd h
  sends_first to bytes (p ∷ ps) o h e = ap (λ k. cons_option k (answers_of w ps)) (ap (λ b. answer_in (role_heard w b)) h.1 ∙ e)

  tells : (to : Address) (bytes : List ℕ) (ns ms : List Note) (ds : List DecidedRequest) (x y : Desk) (o : Option Note) → answer_in (role_heard w bytes) ≡ o → IsFirstPost x.owed to bytes → (y.served ≡ x.served) × (y.owed ≡ tail x.owed) → Known w accepts ns ms ds x → Known w accepts ns (cons_option o ms) ds y
  tells to bytes ns ms ds x y None e first s k = goes_on ns ms ds x y s.0 (ap (answers_of w) s.1 ∙ sym (sends_first to bytes x.owed None first e)) k
  tells to bytes ns ms ds x y (Some a) e first s k = tells_known ns ms ds x y a s.0 (sends_first to bytes x.owed (Some a) first e ∙ ap (λ l. a ∷ answers_of w l) (sym s.1)) k

  drops : (ns ms : List Note) (ds : List DecidedRequest) (x y : Desk) → x.owed ≡ [] → Drops w x y → Known w accepts ns ms ds x → Known w accepts ns ms ds y
  drops ns ms ds x y none d k = goes_on ns ms ds x y d.served (d.owes ∙ sym (ap (answers_of w) none)) k

  same_desk : (ns ms : List Note) (ds : List DecidedRequest) (x y : Desk) → y ≡ x → Known w accepts ns ms ds x → Known w accepts ns ms ds y
  same_desk ns ms ds x y e k = let P : Desk → Type 0 = λ z. Known w accepts ns ms ds z in subst P (sym e) k

  pub step : (mv : Move) (ns ms : List Note) (ds : List DecidedRequest) (x y : Desk) → Arrives mv ns ms → AskMay accepts mv (by_ordinal ns) ds → SlaveMay mv x.owed → ServesNote w accepts mv x y → Known w accepts ns ms ds x
      → Known w accepts (cons_option (asked mv) ns) (cons_option (told (λ b. answer_in (role_heard w b)) mv) ms) (decided_after mv (by_ordinal ns) ds) y
  step (Asks n) ns ms ds x y a m may s k = same_desk (n ∷ ns) ms ds x y s (asks_known n ns ms ds x m k)
  step (Comes from receiver n) ns ms ds x y a m may s k = handles n ns ms ds x y a may s k
  step (Tells to bytes) ns ms ds x y a m may s k = tells to bytes ns ms ds x y (answer_in (role_heard w bytes)) refl may s k
  step (Hears b) ns ms ds x y a m may s k =
      let t = hearing accepts b (by_ordinal ns) (by_ordinal ms) ds x.served (answers_of w x.owed) (taken_length x.served) (given_length x.served) (given_length ds) a (last_of ns k.requests) k.talk in
      same_desk ns ms (decided_after (Hears b) (by_ordinal ns) ds) x y s (record { requests = k.requests; answers = k.answers; talk = t })
  step (Brings from id n) ns ms ds x y a m may s k = drops ns ms ds x y may s k
  step Turns ns ms ds x y a m may s k = drops ns ms ds x y may s k
  step Rests ns ms ds x y a m may s k = drops ns ms ds x y may s k
  step Other ns ms ds x y a m may s k = same_desk ns ms ds x y s k
