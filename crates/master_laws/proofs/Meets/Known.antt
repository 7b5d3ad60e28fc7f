-- What is known of the requests to a slave at every moment.
use Rattle.std.proofs.Common.{◌≡◌, ℕ, suc, ◌+◌, ◌%◌, ◌≤◌, Bool, true, false, if◌then◌else◌, inl, inr, None, List, [], ◌∷◌, map, length, refl, sym, ap, ◌∙◌, subst, arith}
use Rattle.std.specs.Prelude.{◌==◌, ◌&&◌, is_some}
use Rattle.std.proofs.lemmas.Bool.{eqb-true}
use Rattle.std.proofs.lemmas.Bool.Decides.{nat_tests}
use Rattle.std.proofs.lemmas.List.{length-map}
use Rattle.log_spec.specs.Messages.{Note}
use Rattle.log_spec.specs.Channel.{by_ordinal, Repeats, IsRegularChannel}
use Rattle.log_spec.specs.Log.{DecidedRequest}
use Rattle.log_spec.specs.Moves.{Move, Asks, Comes, Tells, Hears, Brings, Turns, Rests, Other, decides, with_newest, decided_after}
use Rattle.log_spec.proofs.Channel.{grown_again, grown_next}
use Rattle.master_spec.specs.declared.requests.Request.{Request}
use Rattle.master_spec.specs.declared.requests.Answer.{Answer}
use Rattle.master_spec.specs.News.{News, Answers, Hints, Brings, Nothing}
use Rattle.master_spec.specs.Requests.{Asking, decided_by, with_news}
use Rattle.master_log_laws.specs.Index.Index.{first_at, again_at}
use Rattle.master_log_laws.specs.Phases.Laws.{AreDecided}
use Rattle.master_log_laws.proofs.Phases.Now.{IsOf}
use Rattle.master_laws.specs.Meets.Laws.{note_of}

-- where the newest request is decided, all are
abbrev pub IsHeadDone : List Asking → List DecidedRequest → Type 0
IsHeadDone [] ds = Unit {0}
IsHeadDone (b ∷ bs) ds = is_some b.decision ≡ true → length ds ≡ suc (length bs)

-- the requests that the log tells, those that were sent, and those that are decided
pub record Known (id : ℕ) (bs : List Asking) (ns : List Note) (ds : List DecidedRequest) : Type 0 where
  pub regular : IsRegularChannel ns
  pub requests : by_ordinal ns ≡ map (note_of id) bs
  pub most : length ds ≤ length bs
  pub near : length bs ≤ length ds + 1
  pub done : IsHeadDone bs ds

pub long : (id : ℕ) (bs : List Asking) → length (map (note_of id) bs) ≡ length bs
long id bs = length-map bs (note_of id)

pub all_done : (bs : List Asking) (ds : List DecidedRequest) → AreDecided bs → IsHeadDone bs ds → length ds ≤ length bs → length ds ≡ length bs
all_done [] ds a d m = omega (arith, m)
all_done (b ∷ bs) ds a d m = d a.0

-- ---- a request is sent
pub fresh_known : (id n : ℕ) (bs : List Asking) (ns : List Note) (ds : List DecidedRequest) (r : Request) → Known id bs ns ds → AreDecided bs → Known id (first_at n (length bs % 65536) r ∷ bs) (note_of id (first_at n (length bs % 65536) r) ∷ ns) ds
fresh_known id n bs ns ds r k a =
    let l : length (by_ordinal ns) ≡ length bs = ap length k.requests ∙ long id bs in
    let num : length bs % 65536 ≡ length (by_ordinal ns) % 65536 = ap (λ (z : ℕ). z % 65536) (sym l) in
    let note = note_of id (first_at n (length bs % 65536) r) in
    let d = all_done bs ds a k.done k.most in
    record {
      regular = (inr num, k.regular);
      requests = grown_next note ns k.regular num ∙ ap (λ (z : List Note). note ∷ z) k.requests;
      most = omega (arith, d);
      near = omega (arith, d);
      done = λ z. absurd (clash z);
    }
  where
    clash : false ≡ true → ⊥
    clash z = cc

same_note : (id n : ℕ) (b : Asking) (r : Request) → IsOf r b → note_of id (first_at n b.number r) ≡ note_of id b
same_note id n b r o =
    ap (λ (z : ℕ). note_of id (record { code = z; number = b.number; more = (first_at n b.number r).more; first = 0; repeats = []; decision = None })) (sym o.0)
    ∙ ap (λ (z : _). note_of id (record { code = b.code; number = b.number; more = z; first = 0; repeats = []; decision = None })) (sym o.1)

pub same_known : (id n : ℕ) (b : Asking) (bs : List Asking) (ns : List Note) (ds : List DecidedRequest) (r : Request) → Known id (b ∷ bs) ns ds → IsOf r b → Known id (again_at n (b ∷ bs)) (note_of id (first_at n b.number r) ∷ ns) ds
same_known id n b bs ns ds r k o =
    let note = note_of id (first_at n b.number r) in
    let P : List Note → Type 0 = λ z. Repeats z note in
    let rep : Repeats (by_ordinal ns) note = subst P (sym k.requests) (same_note id n b r o) in
    record { regular = (inl rep, k.regular); requests = grown_again note ns k.regular rep ∙ k.requests; most = k.most; near = k.near; done = k.done }

pub repeats : (id n : ℕ) (b : Asking) (bs : List Asking) (ns : List Note) (ds : List DecidedRequest) (r : Request) → Known id (b ∷ bs) ns ds → IsOf r b → Repeats (by_ordinal ns) (note_of id (first_at n b.number r))
repeats id n b bs ns ds r k o = let P : List Note → Type 0 = λ z. Repeats z (note_of id (first_at n b.number r)) in subst P (sym k.requests) (same_note id n b r o)

-- ---- an answer is heard, or anything else
decided_least : (mv : Move) (rs : List Note) (ds : List DecidedRequest) → length ds ≤ length (decided_after mv rs ds)
decided_least (Asks n) rs ds = omega arith
decided_least (Comes from receiver n) rs ds = omega arith
decided_least (Tells to bytes) rs ds = omega arith
decided_least (Hears a) rs ds = by rs (decides a rs ds)
  where
    by : (rs : List Note) (b : Bool) → length ds ≤ length (if b then with_newest rs a ds else ds)
    by [] true = omega arith
    by (r ∷ rs) true = omega arith
    by rs false = omega arith
decided_least (Brings from id n) rs ds = omega arith
decided_least Turns rs ds = omega arith
decided_least Rests rs ds = omega arith
decided_least Other rs ds = omega arith

decided_most : (mv : Move) (rs : List Note) (ds : List DecidedRequest) → length ds ≤ length rs → length (decided_after mv rs ds) ≤ length rs
decided_most (Asks n) rs ds l = l
decided_most (Comes from receiver n) rs ds l = l
decided_most (Tells to bytes) rs ds l = l
decided_most (Hears a) rs ds l = grind (arith, nat_tests)
decided_most (Brings from id n) rs ds l = l
decided_most Turns rs ds l = l
decided_most Rests rs ds l = l
decided_most Other rs ds l = l

heard_full : (a r : Note) (rest : List Note) (ds : List DecidedRequest) (n : ℕ) → a.number ≡ r.number → length rest ≡ n → length ds ≤ suc n → suc n ≤ length ds + 1 → length (if decides a (r ∷ rest) ds then with_newest (r ∷ rest) a ds else ds) ≡ suc n
heard_full a r rest ds n e l m k = grind (arith, nat_tests)

map_news : (id n : ℕ) (news : News) (bs : List Asking) → map (note_of id) (with_news id n news bs) ≡ map (note_of id) bs
map_news id n (Answers number sender answer) [] = refl
map_news id n (Answers number sender answer) (b ∷ bs) = by ((sender == id) && (number == b.number))
  where
    by : (t : Bool) → map (note_of id) (if t then record { code = b.code; number = b.number; more = b.more; first = b.first; repeats = b.repeats; decision = decided_by b.decision (record { place = n; answer = answer }) } ∷ bs else b ∷ bs) ≡ map (note_of id) (b ∷ bs)
    by true = refl
    by false = refl
map_news id n (Hints sender) bs = refl
map_news id n (Brings number data_id payload) bs = refl
map_news id n Nothing bs = refl

-- an answer of the slave is heard by the master
abbrev pub IsHeardAs : (id : ℕ) → News → Move → Type 0
IsHeardAs id (Answers number sender answer) mv = sender ≡ id → (a : Note) × ((mv ≡ Hears a) × (a.number ≡ number))
IsHeardAs id (Hints sender) mv = Unit {0}
IsHeardAs id (Brings number data_id payload) mv = Unit {0}
IsHeardAs id Nothing mv = Unit {0}

module _ (id : ℕ) (bs : List Asking) (ns : List Note) (ds : List DecidedRequest) (k : Known id bs ns ds) (mv : Move) where
  after : List DecidedRequest
  after = decided_after mv (by_ordinal ns) ds

  rs_long : length (by_ordinal ns) ≡ length bs
  rs_long = ap length k.requests ∙ long id bs

  upper : length (decided_after mv (by_ordinal ns) ds) ≤ length bs
  upper = let z = decided_most mv (by_ordinal ns) ds (omega (arith, k.most, rs_long)) in omega (arith, z, rs_long)

  lower : length ds ≤ length (decided_after mv (by_ordinal ns) ds)
  lower = decided_least mv (by_ordinal ns) ds

  stays : (cs : List Asking) → cs ≡ bs → IsHeadDone cs (decided_after mv (by_ordinal ns) ds)
  stays [] e = tt
  stays (c ∷ cs) e = λ z. (
      let P : List Asking → Type 0 = λ y. IsHeadDone y ds in
      let d = subst P (sym e) k.done z in
      let l : suc (length cs) ≡ length bs = ap length e in
      omega (arith, d, l, upper, lower)
      )

  pub other_known : Known id bs ns (decided_after mv (by_ordinal ns) ds)
  other_known = record { regular = k.regular; requests = k.requests; most = upper; near = (let z = k.near in omega (arith, z, lower)); done = stays bs refl }

  answered : (n number sender : ℕ) (answer : Answer) (cs : List Asking) → cs ≡ bs → IsHeardAs id (Answers number sender answer) mv → IsHeadDone (with_news id n (Answers number sender answer) cs) (decided_after mv (by_ordinal ns) ds)
  answered n number sender answer [] e h = tt
  answered n number sender answer (c ∷ cs) e h = by (sender == id) (number == c.number) refl refl
    where
      new : Asking
      new = record { code = c.code; number = c.number; more = c.more; first = c.first; repeats = c.repeats; decision = decided_by c.decision (record { place = n; answer = answer }) }

      requests : by_ordinal ns ≡ note_of id c ∷ map (note_of id) cs
      requests = k.requests ∙ ap (map (note_of id)) (sym e)

      l : suc (length cs) ≡ length bs
      l = ap length e

      full : (a : Note) → a.number ≡ number → number ≡ c.number → length (decided_after (Hears a) (by_ordinal ns) ds) ≡ suc (length cs)
      full a p q =
          let P : List Note → Type 0 = λ z. length (if decides a z ds then with_newest z a ds else ds) ≡ suc (length cs) in
          let x = k.most in
          let y = k.near in
          subst P (sym requests) (heard_full a (note_of id c) (map (note_of id) cs) ds (length cs) (p ∙ q) (long id cs) (omega (arith, x, l)) (omega (arith, y, l)))

      by : (t u : Bool) → (sender == id) ≡ t → (number == c.number) ≡ u → IsHeadDone (if t && u then new ∷ cs else c ∷ cs) (decided_after mv (by_ordinal ns) ds)
      by true true p q = λ z. (
          let f = h (eqb-true sender id p) in
          let P : Move → Type 0 = λ m. length (decided_after m (by_ordinal ns) ds) ≡ suc (length cs) in
          subst P (sym (f.1).0) (full f.0 (f.1).1 (eqb-true number c.number q))
          )
      by true false p q = stays (c ∷ cs) e
      by false u p q = stays (c ∷ cs) e

  done_news : (n : ℕ) (news : News) → IsHeardAs id news mv → IsHeadDone (with_news id n news bs) (decided_after mv (by_ordinal ns) ds)
  done_news n (Answers number sender answer) h = answered n number sender answer bs refl h
  done_news n (Hints sender) h = stays bs refl
  done_news n (Brings number data_id payload) h = stays bs refl
  done_news n Nothing h = stays bs refl

  pub heard_known : (n : ℕ) (news : News) → IsHeardAs id news mv → Known id (with_news id n news bs) ns (decided_after mv (by_ordinal ns) ds)
  heard_known n news h =
      let m = map_news id n news bs in
      let l : length (with_news id n news bs) ≡ length bs = sym (long id (with_news id n news bs)) ∙ ap length m ∙ long id bs in
      let x = k.near in
      record { regular = k.regular; requests = k.requests ∙ sym m; most = omega (arith, upper, l); near = omega (arith, x, lower, l); done = done_news n news h }
