-- The requests of a log go one by one.
use Rattle.std.proofs.Common.{◌≡◌, ℕ, suc, ◌%◌, true, ◌⊎◌, inl, inr, Option, Some, None, List, [], ◌∷◌, length, refl, sym, ap, ◌∙◌, subst, arith}
use Rattle.std.specs.Prelude.{is_some, slice_get}
use Rattle.dcp_types.specs.declared.limits.Limits.{Limits}
use Rattle.master_spec.specs.declared.requests.Request.{Request}
use Rattle.master_spec.specs.declared.requests.Answer.{Answer}
use Rattle.master_spec.specs.declared.reports.Report.{Report}
use Rattle.master_spec.specs.declared.reactions.Reaction.TheVariants.{Ask}
use Rattle.master_spec.specs.Setup.{jobs_of}
use Rattle.master_spec.specs.Jobs.{Job}
use Rattle.master_spec.specs.Marks.{Mark, Begun, Asked, Again, Answered, Hinted, Brought, Turned, Ended, asked, open_request}
use Rattle.master_spec.specs.Requests.{Asking, Decision, decided_by, asks}
use Rattle.master_log_laws.specs.Asking.Legal.{Does, IsLegal, AreLegal, GoesByRule}
use Rattle.master_log_laws.proofs.Asking.Closed.{asks_open}
use Rattle.master_log_laws.proofs.Asking.Legal.{going}
use Rattle.master_log_laws.specs.Index.Runs.{events_of_master, course_at, owed}
use Rattle.master_log_laws.specs.Index.Index.{Placed, marks_of, again_at, decided_at, askings_told_by, askings_told, ReadBack, IsAsked, IsAgain, Owes}
use Rattle.master_log_laws.specs.Index.Follows.{mine, talk_with}
use Rattle.master_log_laws.specs.Index.Late.{AreLate}
use Rattle.master_log_laws.proofs.Index.Laws.{listens}
use Rattle.master_log_laws.proofs.Index.Reported.{reported}
use Rattle.master_log_laws.proofs.Index.Runs.{followed, with_at}
use Rattle.master_log_laws.specs.Phases.Laws.{AreDecided, AreOneByOne, RequestsGoOneByOne}

pub record Ordered (marks : List Mark) (bs : List Asking) : Type 0 where
  pub one_by_one : AreOneByOne bs
  pub long : length bs ≡ asked marks
  pub decided : open_request marks ≡ None → AreDecided bs

again_order : (n : ℕ) (bs : List Asking) → AreOneByOne bs → AreOneByOne (again_at n bs)
again_order n [] a = tt
again_order n (b ∷ bs) a = a

again_long : (n : ℕ) (bs : List Asking) → length (again_at n bs) ≡ length bs
again_long n [] = refl
again_long n (b ∷ bs) = refl

again_decided : (n : ℕ) (bs : List Asking) → AreDecided bs → AreDecided (again_at n bs)
again_decided n [] a = tt
again_decided n (b ∷ bs) a = a

answered_order : (n : ℕ) (a : Answer) (bs : List Asking) → AreOneByOne bs → AreOneByOne (decided_at n a bs)
answered_order n a [] o = tt
answered_order n a (b ∷ bs) o = o

answered_long : (n : ℕ) (a : Answer) (bs : List Asking) → length (decided_at n a bs) ≡ length bs
answered_long n a [] = refl
answered_long n a (b ∷ bs) = refl

answered_decided : (n : ℕ) (a : Answer) (bs : List Asking) → AreOneByOne bs → AreDecided (decided_at n a bs)
answered_decided n a [] o = tt
answered_decided n a (b ∷ bs) o = (by b.decision, (o.1).0)
  where
    by : (d : Option Decision) → is_some (decided_by d (record { place = n; answer = a })) ≡ true
    by None = refl
    by (Some e) = refl

closed_ask : (limits : Limits) (ms : List Mark) (r : Request) → Does limits ms (Ask r) → open_request ms ≡ None
closed_ask limits [] r d = absurd d
closed_ask limits (m ∷ ms) r d = asks_open limits m ms r d

pub ordered : (limits : Limits) (js : List Job) (xs : List Placed) → AreLegal limits js (marks_of xs) → Ordered (marks_of xs) (askings_told xs)
ordered limits js [] l = record { one_by_one = tt; long = refl; decided = λ o. tt }
ordered limits js (x ∷ xs) l = by x.mark l.0 (ordered limits js xs l.1)
  where
    by : (m : Mark) → IsLegal limits js m (marks_of xs) → Ordered (marks_of xs) (askings_told xs) → Ordered (m ∷ marks_of xs) (askings_told_by x.place m (marks_of xs) (askings_told xs))
    by (Begun j) k h = record { one_by_one = h.one_by_one; long = h.long; decided = λ o. h.decided (k.1).free }
    by (Asked r) k h =
        let n = h.long in
        record {
          one_by_one = (ap (λ (i : ℕ). i % 65536) (sym n), (h.decided (closed_ask limits (marks_of xs) r k), h.one_by_one));
          long = ap (λ (i : ℕ). suc i) n ∙ omega arith;
          decided = λ o. absurd (clash o);
        }
      where
        clash : Some r ≡ None → ⊥
        clash z = cc
    by Again k h = record { one_by_one = again_order x.place (askings_told xs) h.one_by_one; long = again_long x.place (askings_told xs) ∙ h.long; decided = λ o. again_decided x.place (askings_told xs) (h.decided o) }
    by (Answered r a) k h = record { one_by_one = answered_order x.place a (askings_told xs) h.one_by_one; long = answered_long x.place a (askings_told xs) ∙ h.long; decided = λ o. answered_decided x.place a (askings_told xs) h.one_by_one }
    by Hinted k h = record { one_by_one = h.one_by_one; long = h.long; decided = h.decided }
    by (Brought n p) k h = record { one_by_one = h.one_by_one; long = h.long; decided = h.decided }
    by (Turned t) k h = record { one_by_one = h.one_by_one; long = h.long; decided = h.decided }
    by (Ended cause) k h = record { one_by_one = h.one_by_one; long = h.long; decided = h.decided }

-- ---- in the log
late_order : (n : ℕ) (cs bs : List Asking) → AreLate n cs bs → AreOneByOne bs → AreOneByOne cs
late_order n [] [] l o = tt
late_order n [] (b ∷ bs) l o = absurd l
late_order n (c ∷ cs) [] l o = absurd l
late_order n (c ∷ cs) (b ∷ bs) l o =
    let P : List Asking → Type 0 = λ z. AreDecided z in
    let Q : List Asking → Type 0 = λ z. AreOneByOne z in
    ((l.0).number ∙ o.0 ∙ ap (λ (z : List Asking). length z % 65536) (sym l.1), (subst P (sym l.1) (o.1).0, subst Q (sym l.1) (o.1).1))

-- what is still to be sent is the newest mark
pub legal_below : (limits : Limits) (js : List Job) (good : Request → Type 0) (id : ℕ) (posts : List (List ℕ)) (marks older : List Mark) → Owes good id posts marks older → AreLegal limits js marks → AreLegal limits js older
legal_below limits js good id [] marks older o l = let P : List Mark → Type 0 = λ z. AreLegal limits js z in subst P o l
legal_below limits js good id (b ∷ c ∷ more) marks older o l = absurd o
legal_below limits js good id (b ∷ []) marks older o l = by o.0 ((o.1).1).1
  where
    P : List Mark → Type 0
    P z = AreLegal limits js z

    by : (r : Request) → IsAsked id b marks older r ⊎ IsAgain id b marks older r → AreLegal limits js older
    by r (inl k) = (subst P k.0 l).1
    by r (inr k) = (subst P k.0 l).1

pub one_by_one : RequestsGoOneByOne
one_by_one setup h log run i slave e = by (course_at setup log).report refl
  where
    legal_at : (marks : List Mark) → slice_get (course_at setup log).talks i ≡ Some (talk_with slave marks) → AreLegal setup.limits (jobs_of setup slave) marks
    legal_at marks here = (with_at (λ u m. GoesByRule setup.limits (jobs_of setup u) (course_at setup log).phase m) (course_at setup log).talks i (talk_with slave marks) (going setup h.runs (events_of_master setup log)).goes here).legal

    by : (o : Option Report) → (course_at setup log).report ≡ o → AreOneByOne (asks setup.address slave log)
    by None r =
        let f = followed setup (ReadBack slave.id) i slave (listens setup h i slave e) h.runs log run r in
        let l = legal_below setup.limits (jobs_of setup slave) (ReadBack slave.id) slave.id (mine slave.address (owed setup log)) f.marks (marks_of f.xs) (f.tracks).owes (legal_at f.marks f.here) in
        let P : List Asking → Type 0 = λ z. AreOneByOne z in
        subst P (sym (f.tracks).is) (ordered setup.limits (jobs_of setup slave) f.xs l).one_by_one
    by (Some report) r =
        let s = (reported setup (ReadBack slave.id) i slave (listens setup h i slave e) h.runs log run report r).0 in
        late_order s.until (asks setup.address slave log) (askings_told s.xs) s.late (ordered setup.limits (jobs_of setup slave) s.xs (legal_at (marks_of s.xs) s.here)).one_by_one
