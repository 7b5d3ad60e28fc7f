-- The requests of the present phase, and those before it.
use Rattle.std.proofs.Common.{◌≡◌, ℕ, ◌%◌, Option, Some, None, List, [], ◌∷◌, ◌++◌, refl, ap, ◌∙◌, subst}
use Rattle.dcp_types.specs.declared.limits.Limits.{Limits}
use Rattle.master_spec.specs.declared.requests.Request.{Request}
use Rattle.master_spec.specs.declared.requests.Answer.{Answer}
use Rattle.master_spec.specs.declared.requests.Latest.{Latest}
use Rattle.master_spec.specs.declared.requests.Latest.TheVariants as latests
use Rattle.master_spec.specs.Jobs.{Job}
use Rattle.master_spec.specs.Marks.{Mark, Begun, Asked, Again, Answered, Hinted, Brought, Turned, Ended, asked, open_in, open_request, latest}
use Rattle.master_spec.specs.Requests.{Asking, Decision, decided_by}
use Rattle.master_spec.specs.declared.reactions.Reaction.TheVariants.{Repeat}
use Rattle.master_log_laws.specs.Asking.Legal.{Does, IsLegal, AreLegal}
use Rattle.master_log_laws.specs.Index.Index.{Placed, marks_of, code_of, more_of, first_at, again_at, decided_at, askings_told_by, askings_told}
use Rattle.master_log_laws.proofs.Index.Events.{repeats_open}

-- the requests of this phase
abbrev pub now_by : ℕ → Mark → List Mark → List Asking → List Asking
now_by place (Begun job) marks bs = []
now_by place (Asked request) marks bs = askings_told_by place (Asked request) marks bs
now_by place Again marks bs = askings_told_by place Again marks bs
now_by place (Answered request answer) marks bs = askings_told_by place (Answered request answer) marks bs
now_by place Hinted marks bs = bs
now_by place (Brought number payload) marks bs = bs
now_by place (Turned settled) marks bs = bs
now_by place (Ended cause) marks bs = bs

abbrev pub now : List Placed → List Asking
now [] = []
now (x ∷ xs) = now_by x.place x.mark (marks_of xs) (now xs)

-- the marks before this phase
abbrev pub past_by : Mark → List Placed → List Placed → List Placed
past_by (Begun job) xs before = xs
past_by (Asked request) xs before = before
past_by Again xs before = before
past_by (Answered request answer) xs before = before
past_by Hinted xs before = before
past_by (Brought number payload) xs before = before
past_by (Turned settled) xs before = before
past_by (Ended cause) xs before = before

abbrev pub past : List Placed → List Placed
past [] = []
past (x ∷ xs) = past_by x.mark xs (past xs)

-- ---- the newest exchange and the newest request of the phase
abbrev pub IsOf : Request → Asking → Type 0
IsOf r b = (b.code ≡ code_of r) × (b.more ≡ more_of r)

abbrev pub IsDecidedBy : Option Answer → Asking → Type 0
IsDecidedBy None b = b.decision ≡ None
IsDecidedBy (Some a) b = (place : ℕ) × (b.decision ≡ Some (record { place = place; answer = a }))

abbrev pub Linked : Latest → List Asking → Type 0
Linked latests.Nothing [] = Unit {0}
Linked latests.Nothing (b ∷ bs) = ⊥
Linked (latests.Asked r) [] = ⊥
Linked (latests.Asked r) (b ∷ bs) = IsOf r b × IsDecidedBy None b
Linked (latests.Answered r a) [] = ⊥
Linked (latests.Answered r a) (b ∷ bs) = IsOf r b × IsDecidedBy (Some a) b

pub open_latest : (l : Latest) (r : Request) → open_in l ≡ Some r → l ≡ latests.Asked r
open_latest latests.Nothing r h = absurd cc
open_latest (latests.Asked q) r h = let z : q ≡ r = cc in ap (λ (x : Request). latests.Asked x) z
open_latest (latests.Answered q a) r h = absurd cc

again_linked : (n : ℕ) (l : Latest) (bs : List Asking) → Linked l bs → Linked l (again_at n bs)
again_linked n latests.Nothing [] k = tt
again_linked n latests.Nothing (b ∷ bs) k = absurd k
again_linked n (latests.Asked r) [] k = absurd k
again_linked n (latests.Asked r) (b ∷ bs) k = k
again_linked n (latests.Answered r a) [] k = absurd k
again_linked n (latests.Answered r a) (b ∷ bs) k = k

answered_linked : (n : ℕ) (r : Request) (a : Answer) (bs : List Asking) → Linked (latests.Asked r) bs → Linked (latests.Answered r a) (decided_at n a bs)
answered_linked n r a [] k = absurd k
answered_linked n r a (b ∷ bs) k = (k.0, (n, ap (λ (o : Option Decision). decided_by o (record { place = n; answer = a })) k.1))

pub linked : (limits : Limits) (js : List Job) (xs : List Placed) → AreLegal limits js (marks_of xs) → Linked (latest (marks_of xs)) (now xs)
linked limits js [] l = tt
linked limits js (x ∷ xs) l = by x.mark l.0 (linked limits js xs l.1)
  where
    by : (m : Mark) → IsLegal limits js m (marks_of xs) → Linked (latest (marks_of xs)) (now xs) → Linked (latest (m ∷ marks_of xs)) (now_by x.place m (marks_of xs) (now xs))
    by (Begun job) k h = tt
    by (Asked r) k h = ((refl, refl), refl)
    by Again k h = again_linked x.place (latest (marks_of xs)) (now xs) h
    by (Answered r a) k h =
        let P : Latest → Type 0 = λ y. Linked y (now xs) in
        answered_linked x.place r a (now xs) (subst P (open_latest (latest (marks_of xs)) r k.1) h)
    by Hinted k h = h
    by (Brought number payload) k h = h
    by (Turned settled) k h = h
    by (Ended cause) k h = h

-- ---- the requests are those of this phase and those before
again_split : (n : ℕ) (l : Latest) (bs cs : List Asking) (r : Request) → open_in l ≡ Some r → Linked l bs → again_at n (bs ++ cs) ≡ again_at n bs ++ cs
again_split n latests.Nothing bs cs r o k = absurd cc
again_split n (latests.Asked q) [] cs r o k = absurd k
again_split n (latests.Asked q) (b ∷ bs) cs r o k = refl
again_split n (latests.Answered q a) bs cs r o k = absurd cc

decided_split : (n : ℕ) (a : Answer) (l : Latest) (bs cs : List Asking) (r : Request) → open_in l ≡ Some r → Linked l bs → decided_at n a (bs ++ cs) ≡ decided_at n a bs ++ cs
decided_split n a latests.Nothing bs cs r o k = absurd cc
decided_split n a (latests.Asked q) [] cs r o k = absurd k
decided_split n a (latests.Asked q) (b ∷ bs) cs r o k = refl
decided_split n a (latests.Answered q b) bs cs r o k = absurd cc

pub split : (limits : Limits) (js : List Job) (xs : List Placed) → AreLegal limits js (marks_of xs) → askings_told xs ≡ now xs ++ askings_told (past xs)
split limits js [] l = refl
split limits js (x ∷ xs) l = by x.mark l.0 (linked limits js xs l.1) (split limits js xs l.1)
  where
    again : (r : Request) → open_in (latest (marks_of xs)) ≡ Some r → Linked (latest (marks_of xs)) (now xs) → askings_told xs ≡ now xs ++ askings_told (past xs) → again_at x.place (askings_told xs) ≡ again_at x.place (now xs) ++ askings_told (past xs)
    again r o k h = ap (again_at x.place) h ∙ again_split x.place (latest (marks_of xs)) (now xs) (askings_told (past xs)) r o k

    repeated : (ms : List Mark) → Does limits ms Repeat → (r : Request) × (open_request ms ≡ Some r)
    repeated [] d = absurd d
    repeated (m ∷ ms) d = repeats_open limits m ms d

    by : (m : Mark) → IsLegal limits js m (marks_of xs) → Linked (latest (marks_of xs)) (now xs) → askings_told xs ≡ now xs ++ askings_told (past xs)
        → askings_told_by x.place m (marks_of xs) (askings_told xs) ≡ now_by x.place m (marks_of xs) (now xs) ++ askings_told (past_by m xs (past xs))
    by (Begun job) k i h = refl
    by (Asked r) k i h = ap (λ (z : List Asking). first_at x.place (asked (marks_of xs) % 65536) r ∷ z) h
    by Again k i h = let o = repeated (marks_of xs) k in again o.0 o.1 i h
    by (Answered r a) k i h = ap (decided_at x.place a) h ∙ decided_split x.place a (latest (marks_of xs)) (now xs) (askings_told (past xs)) r k.1 i
    by Hinted k i h = h
    by (Brought number payload) k i h = h
    by (Turned settled) k i h = h
    by (Ended cause) k i h = h
