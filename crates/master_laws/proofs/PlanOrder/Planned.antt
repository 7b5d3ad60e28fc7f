-- In the plan of a slave each job finds what it needs.
use Rattle.std.proofs.Common.{◌≡◌, ℕ, zero, suc, ◌+◌, ◌-◌, ◌*◌, ◌/◌, ◌%◌, ◌<◌, ◌≤◌, Bool, true, false, if◌then◌else◌, List, [], ◌∷◌, ◌++◌, reverse, refl, sym, ap, ◌∙◌, subst, arith}
use Rattle.std.specs.Prelude.{◌==◌, slice_index_or}
use Rattle.std.specs.List.{flat_map, range_with_len}
use Rattle.std.proofs.lemmas.Bool.{eqb-true}
use Rattle.std.proofs.lemmas.Grind.{flat_map-append}
use Rattle.std.proofs.lemmas.List.{append-nil, append_assoc, reverse-append}
use Rattle.std.proofs.lemmas.Nat.{mod-mul-add, div-mul-add}
use Rattle.pdu_layout.specs.declared.messages.Cfg.{Cfg}
use Rattle.lockstep_laws.specs.Steps.{Show, Step, Restart, row_event_at, run_after}
use Rattle.master_spec.specs.declared.setups.Script.{Script}
use Rattle.master_spec.specs.Jobs.{Job, step_jobs, run_jobs, between_jobs, jobs_from, jobs}
use Rattle.master_laws.proofs.PlanOrder.Standing.{Standing, at_first, set_until, IsSet, IsReady, Leads, leads_append, AreAlike, alike_self, alike_append}

-- ---- the place of an event in its run
not_zero : (n : ℕ) → 1 ≤ n → (n == 0) ≡ false
not_zero n h = by (n == 0) refl
  where
    by : (b : Bool) → (n == 0) ≡ b → b ≡ false
    by true e = let z = eqb-true n 0 e in absurd (omega (arith, z, h))
    by false e = refl

place : (steps m k : ℕ) → ℕ
place steps m k = m * (steps + 1) + k

even : (p : ℕ) → (p + p) % 2 ≡ 0
even p = omega arith

half_even : (p : ℕ) → (p + p) / 2 ≡ p
half_even p = omega arith

odd : (p : ℕ) → (p + p + 1) % 2 ≡ 1
odd p = omega arith

half_odd : (p : ℕ) → (p + p + 1) / 2 ≡ p
half_odd p = omega arith

shows : (steps p : ℕ) → row_event_at steps (p + p) ≡ Show
shows steps p = ap (λ (n : ℕ). if n == 0 then Show else (if ((p + p) / 2 + 1) % (steps + 1) == 0 then Restart else Step)) (even p)

other : (steps p : ℕ) → row_event_at steps (p + p + 1) ≡ (if (p + 1) % (steps + 1) == 0 then Restart else Step)
other steps p =
    ap (λ (n : ℕ). if n == 0 then Show else (if ((p + p + 1) / 2 + 1) % (steps + 1) == 0 then Restart else Step)) (odd p)
    ∙ ap (λ (n : ℕ). if (n + 1) % (steps + 1) == 0 then Restart else Step) (half_odd p)

in_run : (steps m k : ℕ) → k ≤ steps → (m * (steps + 1) + k) / (steps + 1) + 1 ≡ m + 1
in_run steps m k h = ap (λ (n : ℕ). n + 1) (div-mul-add m (steps + 1) k (omega (arith, h)))

steps_on : (steps m k : ℕ) → k < steps → row_event_at steps (m * (steps + 1) + k + (m * (steps + 1) + k) + 1) ≡ Step
steps_on steps m k h =
    let same : m * (steps + 1) + k + 1 ≡ m * (steps + 1) + (k + 1) = omega arith in
    other steps (m * (steps + 1) + k)
    ∙ ap (λ (n : ℕ). if n % (steps + 1) == 0 then Restart else Step) same
    ∙ ap (λ (n : ℕ). if n == 0 then Restart else Step) (mod-mul-add m (steps + 1) (k + 1) (omega (arith, h)))
    ∙ ap (λ (b : Bool). if b then Restart else Step) (not_zero (k + 1) (omega arith))

restarts : (steps m : ℕ) → row_event_at steps (m * (steps + 1) + steps + (m * (steps + 1) + steps) + 1) ≡ Restart
restarts steps m =
    let same : m * (steps + 1) + steps + 1 ≡ (m + 1) * (steps + 1) + 0 = omega arith in
    other steps (m * (steps + 1) + steps)
    ∙ ap (λ (n : ℕ). if n % (steps + 1) == 0 then Restart else Step) same
    ∙ ap (λ (n : ℕ). if n == 0 then Restart else Step) (mod-mul-add (m + 1) (steps + 1) 0 (omega arith))

module _ (steps runs : ℕ) (script : Script) where
  abbrev Goes : List Job → (s t : Standing) → Type 0
  Goes js s t = Leads steps runs script js s t

  -- ---- in run m + 1
  module _ (m : ℕ) (less : m < runs) where
    abbrev lists : List Cfg
    lists = reverse (set_until script m)

    -- with its outputs ready
    abbrev running : ℕ → Standing
    running e = record { settings = lists; resets = m; events = e; ready = true }

    abbrev twice : ℕ → ℕ
    twice k = m * (steps + 1) + k + (m * (steps + 1) + k)

    set_now : (e : ℕ) (b : Bool) → IsSet runs script (record { settings = lists; resets = m; events = e; ready = b })
    set_now e b = record { settings = refl; within = less }

    show_ready : (k e : ℕ) → k ≤ steps → e ≡ twice k → IsReady steps runs script Show (running e)
    show_ready k e h q = record {
      set = set_now e true;
      ready = refl;
      run = ap (run_after steps) q ∙ ap (λ (n : ℕ). n / (steps + 1) + 1) (half_even (m * (steps + 1) + k)) ∙ in_run steps m k h;
      event = ap (row_event_at steps) q ∙ shows steps (m * (steps + 1) + k);
    }

    odd_run : (k e : ℕ) → k ≤ steps → e ≡ twice k + 1 → run_after steps e ≡ m + 1
    odd_run k e h q = ap (run_after steps) q ∙ ap (λ (n : ℕ). n / (steps + 1) + 1) (half_odd (m * (steps + 1) + k)) ∙ in_run steps m k h

    step_ready : (k e : ℕ) → k < steps → e ≡ twice k + 1 → IsReady steps runs script Step (running e)
    step_ready k e h q = record { set = set_now e true; ready = refl; run = odd_run k e (omega (arith, h)) q; event = ap (row_event_at steps) q ∙ steps_on steps m k h }

    restart_ready : (e : ℕ) → e ≡ twice steps + 1 → IsReady steps runs script Restart (running e)
    restart_ready e q = record { set = set_now e true; ready = refl; run = odd_run steps e (omega arith) q; event = ap (row_event_at steps) q ∙ restarts steps m }

    step_leads : (r a n k e : ℕ) → k + n ≡ steps → e ≡ twice k + 1 → Goes (flat_map (step_jobs steps r) (range_with_len a n)) (running e) (running (twice steps + 1))
    step_leads r a zero k e h q =
        let same : k ≡ steps = omega (arith, h) in
        ap running (q ∙ ap (λ (i : ℕ). twice i + 1) same)
    step_leads r a (suc n) k e h q =
        (step_ready k e (omega (arith, h)) q, (show_ready (k + 1) (e + 1) (omega (arith, h)) (omega (arith, q)), step_leads r (a + 1) n (k + 1) (e + 1 + 1) (omega (arith, h)) (omega (arith, q))))

    run_leads : (r e : ℕ) (b : Bool) → e ≡ twice 0 → Goes (run_jobs steps r) (record { settings = lists; resets = m; events = e; ready = b }) (running (twice steps + 1))
    run_leads r e b q =
        (set_now e b, (tt, (tt, (show_ready 0 e (omega arith) q, (tt, leads_append steps runs script (flat_map (step_jobs steps r) (range_with_len 1 steps)) _ (running (e + 1)) (running (twice steps + 1)) (running (twice steps + 1)) (step_leads r 1 steps 0 (e + 1) (omega arith) (omega (arith, q))) (tt, refl))))))

  -- ---- from run to run
  range_suc : (a n : ℕ) → range_with_len a (suc n) ≡ range_with_len a n ++ (a + n) ∷ []
  range_suc a zero = ap (λ (i : ℕ). i ∷ []) (omega arith)
  range_suc a (suc n) = ap (λ (is : List ℕ). a ∷ is) (range_suc (a + 1) n ∙ ap (λ (i : ℕ). range_with_len (a + 1) n ++ i ∷ []) (omega arith))

  abbrev adjust : ℕ → List Cfg
  adjust k = slice_index_or script.adjusts (k - 1) []

  one_more : (m : ℕ) → set_until script (suc m) ≡ set_until script m ++ adjust (1 + m)
  one_more m =
      ap (λ (is : List ℕ). script.setup ++ flat_map adjust is) (range_suc 1 m)
      ∙ ap (λ (l : List Cfg). script.setup ++ l) (flat_map-append adjust (range_with_len 1 m) ((1 + m) ∷ []) ∙ ap (λ (l : List Cfg). flat_map adjust (range_with_len 1 m) ++ l) (append-nil (adjust (1 + m))))
      ∙ sym (append_assoc script.setup (flat_map adjust (range_with_len 1 m)) (adjust (1 + m)))

  abbrev begins : ℕ → Bool → Standing
  begins m b = record { settings = reverse (set_until script m); resets = m; events = m * (steps + 1) + 0 + (m * (steps + 1) + 0); ready = b }

  abbrev rested : (m r : ℕ) → Standing
  rested m r = record { settings = reverse (adjust r) ++ reverse (set_until script m); resets = m + 1; events = m * (steps + 1) + steps + (m * (steps + 1) + steps) + 1 + 1; ready = false }

  next_begins : (m r : ℕ) → r ≡ m + 1 → rested m r ≡ begins (m + 1) false
  next_begins m r e =
      let same : r ≡ 1 + m = omega (arith, e) in
      let s : m + 1 ≡ suc m = omega arith in
      let lists : reverse (adjust r) ++ reverse (set_until script m) ≡ reverse (set_until script (m + 1)) =
      sym (reverse-append (set_until script m) (adjust r)) ∙ ap (λ (i : ℕ). reverse (set_until script m ++ adjust i)) same ∙ ap reverse (sym (one_more m)) ∙ ap (λ (i : ℕ). reverse (set_until script i)) (sym s) in
      let events : m * (steps + 1) + steps + (m * (steps + 1) + steps) + 1 + 1 ≡ (m + 1) * (steps + 1) + 0 + ((m + 1) * (steps + 1) + 0) = omega arith in
      ap (λ (l : List Cfg). record { settings = l; resets = m + 1; events = m * (steps + 1) + steps + (m * (steps + 1) + steps) + 1 + 1; ready = false }) lists
      ∙ ap (λ (n : ℕ). record { settings = reverse (set_until script (m + 1)); resets = m + 1; events = n; ready = false }) events

  from_leads : (r more m : ℕ) (b : Bool) → r ≡ m + 1 → m + more + 1 ≡ runs → (t : Standing) × Goes (jobs_from steps script r more) (begins m b) t
  from_leads r zero m b e h =
      let less : m < runs = omega (arith, h) in
      let last = running m less (twice m less steps + 1) in
      (last, leads_append steps runs script (run_jobs steps r) _ (begins m b) last last (run_leads m less r _ b refl) (tt, refl))
  from_leads r (suc more) m b e h =
      let less : m < runs = omega (arith, h) in
      let last = running m less (twice m less steps + 1) in
      let rest = from_leads (r + 1) more (m + 1) false (omega (arith, e)) (omega (arith, h)) in
      let P : Standing → Type 0 = λ z. Goes (jobs_from steps script (r + 1) more) z rest.0 in
      let between : Goes (between_jobs script r) last (rested m r) = (restart_ready m less (twice m less steps + 1) refl, (refl, refl)) in (
        rest.0,
        leads_append steps runs script (run_jobs steps r) _ (begins m b) last rest.0 (run_leads m less r _ b refl)
            (leads_append steps runs script (between_jobs script r) _ last (rested m r) rest.0 between (subst P (sym (next_begins m r e)) rest.1)),
      )

  pub jobs_lead : 1 ≤ runs → (t : Standing) × Leads steps runs script (jobs steps runs script) at_first t
  jobs_lead h =
      let rest = from_leads 1 (runs - 1) 0 false refl (omega (arith, h)) in
      let P : Standing → Type 0 = λ z. Goes (jobs_from steps script 1 (runs - 1)) z rest.0 in
      let lists : reverse (script.setup ++ []) ≡ reverse script.setup ++ [] = ap reverse (append-nil script.setup) ∙ sym (append-nil (reverse script.setup)) in
      let events : 0 * (steps + 1) + 0 + (0 * (steps + 1) + 0) ≡ 0 = omega arith in
      let same = ap (λ (l : List Cfg). record { settings = l; resets = 0; events = 0 * (steps + 1) + 0 + (0 * (steps + 1) + 0); ready = false }) lists ∙ ap (λ (n : ℕ). record { settings = reverse script.setup ++ []; resets = 0; events = n; ready = false }) events in
      (rest.0, (tt, (refl, subst P same rest.1)))

-- ---- the jobs of two slaves
from_alike : (steps : ℕ) (a b : Script) (r more : ℕ) → AreAlike (jobs_from steps a r more) (jobs_from steps b r more)
from_alike steps a b r zero = alike_self (jobs_from steps a r zero)
from_alike steps a b r (suc more) = alike_append (run_jobs steps r) (run_jobs steps r) _ _ (alike_self (run_jobs steps r)) (alike_append (between_jobs a r) (between_jobs b r) _ _ (refl, (refl, tt)) (from_alike steps a b (r + 1) more))

pub jobs_alike : (steps runs : ℕ) (a b : Script) → AreAlike (jobs steps runs a) (jobs steps runs b)
jobs_alike steps runs a b = (refl, (refl, from_alike steps a b 1 (runs - 1)))
