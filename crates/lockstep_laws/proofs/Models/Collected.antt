-- The master's rows are the reference's.
use Rattle.std.proofs.Common.{◌≡◌, ℕ, zero, suc, ◌+◌, ◌-◌, ◌*◌, ◌/◌, ◌%◌, ◌<◌, ◌≤◌, ◌⊎◌, inl, inr, Option, Some, None, List, [], ◌∷◌, ◌++◌, length, refl, sym, ap, ◌∙◌, subst, arith, ℤ, Ok, Result, append_assoc, get_or}
use Rattle.std.specs.Prelude.{◌==◌, slice_get}
use Rattle.std.proofs.lemmas.Bool.{cases_lt, eq-eqb, cond-true}
use Rattle.std.proofs.lemmas.List.{length-append, append-nil}
use Rattle.std.proofs.lemmas.Nat.{div-mul-add, div-add-mod'}
use Rattle.std.proofs.lemmas.Option.{slice_get_within}
use Rattle.dcp_types.specs.declared.fault_codes.FaultCode.{FaultCode}
use Rattle.slave_desc.specs.declared.descriptions.SlaveDesc.{SlaveDesc}
use Rattle.scenario.specs.declared.scenarios.Scenario.{Scenario}
use Rattle.lockstep.specs.declared.references.RefFault.{RefFault}
use Rattle.lockstep.specs.Lockstep.{row_index, shown, beside, row_from, row, IsMoment, Ends, IsReference}
use Rattle.lockstep.proofs.Existence.{within_all}
use Rattle.log_spec.specs.Messages.{Note, Value}
use Rattle.dcp_ends.specs.declared.entries.LogEntry.{LogEntry}
use Rattle.dcp_ends.specs.declared.entries.LogEntry.TheVariants.{Got}
use Rattle.log_spec.specs.Log.{Parties, IsSlaveOf, Values, in_channel, values_sent, requests_sent}
use Rattle.log_spec.specs.Moves.{decided_exchanges}
use Rattle.log_spec.proofs.Moves.{Came, comes_in}
use Rattle.lockstep_laws.specs.Steps.{shown_after, view}
use Rattle.lockstep_laws.specs.Cast.{ConversingSlaves}
use Rattle.lockstep_laws.specs.Runs.{AreSlaves, Behaves}
use Rattle.lockstep_laws.proofs.Conversation.{earlier, drop_later}
use Rattle.lockstep_laws.proofs.Places.{Ahead, ahead}
use Rattle.lockstep_laws.specs.Models.Ordinals.{ordinals_in_run, row_of_ordinal, ordinal_at, ordinals_below}
use Rattle.lockstep_laws.specs.Models.Machines.{Machines, AreMachines, IsRightNote, carried, run_at, step_at}
use Rattle.lockstep_laws.specs.Models.Collecting.{Collector, Watched, row_by, NextRow, Collects}
use Rattle.lockstep_laws.specs.Models.Laws.{RowsAreFront, FinishedIsWhole}
use Rattle.lockstep_laws.proofs.Models.Values.{sends_values}
use Rattle.lockstep_laws.proofs.Models.Kept.{wanted_is}
use Rattle.lockstep_laws.proofs.Models.Exists.{place_is, step_below, at_most}
use Rattle.lockstep_laws.proofs.Models.Lockstep.{lock}

-- ---- an interval of one
by_one : (n : ℕ) → n / 1 ≡ n
by_one n = let e : n ≡ n * 1 + 0 = omega arith in ap (λ k. k / 1) e ∙ div-mul-add n 1 0 (omega arith)

width_one : (steps : ℕ) → ordinals_in_run steps 1 ≡ steps + 1
width_one steps = ap (λ k. k + 1) (by_one steps)

row_one : (steps p : ℕ) → row_of_ordinal steps 1 p ≡ p
row_one steps p =
    let d = div-add-mod' p (steps + 1) in
    let e : row_of_ordinal steps 1 p ≡ p / (steps + 1) * (steps + 1) + 1 * (p % (steps + 1)) = ap (λ v. p / v * (steps + 1) + 1 * (p % v)) (width_one steps) in
    omega (arith, e, d)

count_one : (steps rows : ℕ) → ordinals_below steps 1 rows ≡ rows
count_one steps zero = refl
count_one steps (suc r) =
    let d = div-add-mod' r (steps + 1) in
    let e : ordinal_at steps 1 r ≡ r / (steps + 1) * (steps + 1) + r % (steps + 1) = ap (λ v. r / (steps + 1) * v + r % (steps + 1) / 1) (width_one steps) ∙ ap (λ k. r / (steps + 1) * (steps + 1) + k) (by_one (r % (steps + 1))) in
    omega (arith, e, d)

-- ---- rows and fronts
at_end : (xs : List (List ℤ)) (y : List ℤ) (ys : List (List ℤ)) (d : List ℤ) → get_or (xs ++ y ∷ ys) (length xs) d ≡ y
at_end [] y ys d = refl
at_end (x ∷ xs) y ys d = at_end xs y ys d

next_front : (rows xs rest : List (List ℤ)) → rows ≡ xs ++ rest → length xs < length rows → (rest' : List (List ℤ)) × (rows ≡ (xs ++ get_or rows (length xs) [] ∷ []) ++ rest')
next_front rows xs [] e lt = absurd (omega (arith, lt, ap length e, length-append xs []))
next_front rows xs (y ∷ rest) e lt =
    let at : get_or rows (length xs) [] ≡ y = ap (λ l. get_or l (length xs) []) e ∙ at_end xs y rest [] in
    (rest, e ∙ sym (append_assoc xs (y ∷ []) rest) ∙ ap (λ z. (xs ++ z ∷ []) ++ rest) (sym at))

row_made : (sc : Scenario) (rows : List (List ℤ)) (r k : ℕ) (part : ℕ → List ℤ) (s : ℕ) (ds : List SlaveDesc) → ((i : ℕ) (d : SlaveDesc) → slice_get ds i ≡ Some d → shown sc rows (s + i) d r k ≡ Ok (part (s + i))) → row_from sc rows r k s ds ≡ Ok (row_by part s ds)
row_made sc rows r k part s [] h = refl
row_made sc rows r k part s (d ∷ ds) h =
    let z : s + 0 ≡ s = omega arith in
    let P : ℕ → Type 0 = λ j. shown sc rows j d r k ≡ Ok (part j) in
    let here = subst P z (h 0 d refl) in
    let rest = row_made sc rows r k part (s + 1) ds (λ i d' e. let n : s + suc i ≡ s + 1 + i = omega arith in let Q : ℕ → Type 0 = λ j. shown sc rows j d' r k ≡ Ok (part j) in subst Q n (h (suc i) d' e)) in
    ap (λ (x : Result (List ℤ) FaultCode). beside s r k x (row_from sc rows r k (s + 1) ds)) here ∙ ap (λ (x : Result (List ℤ) RefFault). beside s r k (Ok (part s)) x) rest

same_ok : (a b : List ℤ) (o : Result (List ℤ) RefFault) → o ≡ Ok a → o ≡ Ok b → a ≡ b
same_ok a b o p q = cc

run_within : (runs steps p : ℕ) → p < runs * (steps + 1) → p / (steps + 1) + 1 ≤ runs
run_within runs steps p lt = by (cases_lt (p / (steps + 1)) runs)
  where
    by : (p / (steps + 1) < runs) ⊎ (runs ≤ p / (steps + 1)) → p / (steps + 1) + 1 ≤ runs
    by (inl l) = omega (arith, l)
    by (inr ge) =
        let d = div-add-mod' p (steps + 1) in
        let s : p / (steps + 1) * (steps + 1) ≡ runs * (steps + 1) + (p / (steps + 1) - runs) * (steps + 1) = ap (λ k. k * (steps + 1)) more ∙ omega arith in
        absurd (omega (arith, d, s, lt))
      where
        more : p / (steps + 1) ≡ runs + (p / (steps + 1) - runs)
        more = omega (arith, ge)

-- how many rows are shown while row p is awaited
shown_near : (p done events : ℕ) → 2 * p ≤ done → done ≤ 2 * p + 1 → done ≤ events → events ≤ done + 1 → ((events + 1) / 2 ≡ p) ⊎ ((events + 1) / 2 ≡ p + 1)
shown_near p done events a b c d = by (cases_lt events (2 * p + 1))
  where
    by : (events < 2 * p + 1) ⊎ (2 * p + 1 ≤ events) → ((events + 1) / 2 ≡ p) ⊎ ((events + 1) / 2 ≡ p + 1)
    by (inl lt) = inl (omega (arith, lt, a, c))
    by (inr ge) = inr (omega (arith, ge, b, d))

module _ (w : Parties) (x : ConversingSlaves) (m : Machines) (c : Collector) (ok : AreSlaves w x) (are : AreMachines w x m) (rows : List (List ℤ)) (fault : Option RefFault) (ref : IsReference m.sc rows fault) (whole : List LogEntry) (col : Collects w x m c whole) where
  events_near : (log : List LogEntry) → Behaves w x log → (s : ℕ) → IsSlaveOf w s → ((view (decided_exchanges w s log)).done ≤ (x.bench s log).events) × ((x.bench s log).events ≤ (view (decided_exchanges w s log)).done + 1)
  events_near log b s is = by (ahead w x ok log b s is)
    where
      by : Ahead (requests_sent w s log) (decided_exchanges w s log) (x.bench s log) → ((view (decided_exchanges w s log)).done ≤ (x.bench s log).events) × ((x.bench s log).events ≤ (view (decided_exchanges w s log)).done + 1)
      by (inl e) = (omega (arith, e), omega (arith, e))
      by (inr p) = (omega (arith, p.0), omega (arith, p.0))

  watched_right : (p s : ℕ) (log : List LogEntry) (n : Note) → IsSlaveOf w s → Behaves w x log → Watched w c p s log n → IsRightNote x m rows (c.watch s) p n
  watched_right p s log n is b wa =
      let id = c.watch s in
      let S : ℕ → Type 0 = IsSlaveOf w in
      let own = subst S (sym (col.own s is)) is in
      let P : List LogEntry → Type 0 = Behaves w x in
      let g = Got w.master (w.slave s) wa.bytes in
      let now = drop_later w x ok wa.later (g ∷ wa.earlier) (subst P wa.is b) in
      let before = earlier w x ok g wa.earlier now in
      let came : Came w wa.earlier w.master (w.slave s) (Value id n) = record { bytes = wa.bytes; read = wa.read; repeated = now.honest.0 } in
      let v = sends_values w x ok m are id own wa.earlier before in
      let here : in_channel w (Values id) (w.slave s) w.master (Value id n) ≡ Some n = cond-true (id == id) (Some n) None (eq-eqb id id refl) in
      let i = comes_in w (Values id) wa.earlier w.master (w.slave s) (Value id n) n here v.regular came in
      let a = m.from id in
      let near = near_here wa.earlier before s is wa.begun wa.awaited in
      let at = wanted_is n (values_sent w id wa.earlier) _ (ordinals_below x.steps (m.q id) (shown_after (x.bench a wa.earlier).events)) p i wa.number v.owes near in
      (lock w x ok m are rows fault ref wa.earlier before).sent id own p n at
    where
      near_here : (log : List LogEntry) → Behaves w x log → (s : ℕ) → IsSlaveOf w s → 2 * p ≤ (view (decided_exchanges w s log)).done → (view (decided_exchanges w s log)).done ≤ 2 * p + 1
          → (ordinals_below x.steps (m.q (c.watch s)) (shown_after (x.bench (m.from (c.watch s)) log).events) ≡ p) ⊎ (ordinals_below x.steps (m.q (c.watch s)) (shown_after (x.bench (m.from (c.watch s)) log).events) ≡ p + 1)
      near_here log b s is begun awaited =
          let e = events_near log b s is in
          let same : ordinals_below x.steps (m.q (c.watch s)) (shown_after (x.bench (m.from (c.watch s)) log).events) ≡ shown_after (x.bench s log).events
          = ap (λ q. ordinals_below x.steps q (shown_after (x.bench (m.from (c.watch s)) log).events)) (col.each s is) ∙ count_one x.steps (shown_after (x.bench (m.from (c.watch s)) log).events) ∙ ap (λ t. shown_after (x.bench t log).events) (col.own s is) in
          let Q : ℕ → Type 0 = λ k. (k ≡ p) ⊎ (k ≡ p + 1) in
          subst Q (sym same) (shown_near p (view (decided_exchanges w s log)).done (x.bench s log).events begun awaited e.0 e.1)

  -- what the master reads in it is what the slave shows in row p
  part_right : (p s : ℕ) (n : Note) → IsSlaveOf w s → IsRightNote x m rows (c.watch s) p n → (p < length rows) × (shown m.sc rows s (m.desc s) (run_at x.steps p) (step_at x.steps p) ≡ Ok (c.back s (carried n)))
  part_right p s n is r =
      let row : row_of_ordinal x.steps (m.q (c.watch s)) p ≡ p = ap (λ q. row_of_ordinal x.steps q p) (col.each s is) ∙ row_one x.steps p in
      let P : ℕ → ℕ → Type 0 = λ t j. shown m.sc rows t (m.desc t) (run_at x.steps j) (step_at x.steps j) ≡ Ok r.values in
      let shows = subst (λ t. P t p) (col.own s is) (subst (λ j. P (m.from (c.watch s)) j) row r.shows) in
      let back = ap (c.back s) r.carries ∙ col.back s is rows (run_at x.steps p) (step_at x.steps p) r.values shows in
      (omega (arith, r.exists, row), shows ∙ ap (λ (l : List ℤ). Ok l) (sym back))

  slave_of : (i : ℕ) (d : SlaveDesc) → slice_get m.sc.slaves i ≡ Some d → IsSlaveOf w (1 + i) × (d ≡ m.desc (1 + i))
  slave_of i d e =
      let lt = slice_get_within m.sc.slaves i d e in
      let it : IsSlaveOf w (1 + i) = (omega arith, omega (arith, lt, are.slaves)) in
      let z : 1 + i - 1 ≡ i = omega arith in
      let P : ℕ → Type 0 = λ k. slice_get m.sc.slaves k ≡ Some (m.desc (1 + i)) in
      (it, one d (m.desc (1 + i)) (slice_get m.sc.slaves i) e (subst P z (are.desc (1 + i) it)))
    where
      one : (a b : SlaveDesc) (o : Option SlaveDesc) → o ≡ Some a → o ≡ Some b → a ≡ b
      one a b o p q = cc

  next_row : (e : LogEntry) (log : List LogEntry) → Behaves w x (e ∷ log) → (r : NextRow w m c e log) → length (c.rows log) < length rows → get_or rows (length (c.rows log)) [] ≡ row_by (λ s. c.back s (carried (r.notes s))) 1 m.sc.slaves
  next_row e log b r lt =
      let p = length (c.rows log) in
      let part = λ (s : ℕ). c.back s (carried (r.notes s)) in
      let run = run_at x.steps p in
      let k = step_at x.steps p in
      let made = row_made m.sc rows run k part 1 m.sc.slaves (λ i d q.
      let o = slave_of i d q in
      let P : SlaveDesc → Type 0 = λ h. shown m.sc rows (1 + i) h run k ≡ Ok (part (1 + i)) in
      subst P (sym o.1) (part_right p (1 + i) (r.notes (1 + i)) o.0 (watched_right p (1 + i) (e ∷ log) (r.notes (1 + i)) o.0 b (r.watched (1 + i) o.0))).1) in
      let most = at_most m.sc rows fault ref.ends in
      let fewer : p < x.runs * (x.steps + 1) = let s = ap (λ j. m.sc.runs * (j + 1)) are.steps ∙ ap (λ j. j * (x.steps + 1)) are.runs in omega (arith, lt, most, s) in
      let where' : row_index m.sc.steps run k ≡ p = ap (λ j. row_index j run k) are.steps ∙ place_is x.steps p in
      let last = run_within x.runs x.steps p fewer in
      let within = step_below x.steps p in
      let moment : IsMoment m.sc run k = record { first = omega arith; last = omega (arith, last, are.runs); within = omega (arith, within, are.steps) } in
      let each = ref.each run k moment (omega (arith, lt, where')) in
      let ok_at : ℕ → Result (List ℤ) RefFault = λ j. Ok (get_or rows j []) in
      let there : row m.sc rows run k ≡ Ok (get_or rows p []) = each ∙ ap ok_at where' in
      same_ok (get_or rows p []) (row_by part 1 m.sc.slaves) (row m.sc rows run k) there made

  one_slave : (log : List LogEntry) → 0 < w.count → IsSlaveOf w 1
  one_slave log pos = (omega arith, omega (arith, pos))

  pub front : 0 < w.count → (later log : List LogEntry) → whole ≡ later ++ log → Behaves w x log → RowsAreFront c rows log
  front pos later [] is b = (rows, ap (λ l. l ++ rows) (sym col.begins))
  front pos later (e ∷ log) is b = by (front pos (later ++ e ∷ []) log (is ∙ sym (append_assoc later (e ∷ []) log)) (earlier w x ok e log b)) (col.goes later log e is)
    where
      by : RowsAreFront c rows log → (c.rows (e ∷ log) ≡ c.rows log) ⊎ NextRow w m c e log → RowsAreFront c rows (e ∷ log)
      by before (inl same) = (before.0, before.1 ∙ ap (λ l. l ++ before.0) (sym same))
      by before (inr r) =
          let one = one_slave log pos in
          let lt = (part_right (length (c.rows log)) 1 (r.notes 1) one (watched_right (length (c.rows log)) 1 (e ∷ log) (r.notes 1) one b (r.watched 1 one))).0 in
          let f = next_front rows (c.rows log) before.0 before.1 lt in
          (f.0, f.1 ∙ ap (λ z. (c.rows log ++ z ∷ []) ++ f.0) (next_row e log b r lt) ∙ ap (λ l. l ++ f.0) (sym r.is))

  pub all_rows : 0 < w.count → (later log : List LogEntry) → whole ≡ later ++ log → Behaves w x log → FinishedIsWhole c rows fault log
  all_rows pos later log is b fin = by fault ref.ends
    where
      f : RowsAreFront c rows log
      f = front pos later log is b

      many : length (c.rows log) ≡ m.sc.runs * (m.sc.steps + 1)
      many = col.all later log is fin ∙ sym (ap (λ j. m.sc.runs * (j + 1)) are.steps ∙ ap (λ j. j * (x.steps + 1)) are.runs)

      sum : length rows ≡ length (c.rows log) + length f.0
      sum = ap length f.1 ∙ length-append (c.rows log) f.0

      nothing : (rest : List (List ℤ)) → length rest ≡ 0 → rest ≡ []
      nothing [] e = refl
      nothing (y ∷ ys) e = absurd (omega (arith, e))

      by : (g : Option RefFault) → Ends m.sc rows g → (c.rows log ≡ rows) × (g ≡ None)
      by None h = (sym (f.1 ∙ ap (λ l. c.rows log ++ l) (nothing f.0 (omega (arith, sum, many, h))) ∙ append-nil (c.rows log)), refl)
      by (Some g) h = let lt = within_all m.sc g.run g.step h.moment in absurd (omega (arith, lt, h.behind, many, sum))

pub collected : (w : Parties) (x : ConversingSlaves) (m : Machines) (c : Collector) → AreSlaves w x → AreMachines w x m → (rows : List (List ℤ)) (fault : Option RefFault) → IsReference m.sc rows fault → (later log : List LogEntry) → Behaves w x (later ++ log) → Collects w x m c (later ++ log) → RowsAreFront c rows log
collected w x m c ok are rows fault ref later log b col = front w x m c ok are rows fault ref (later ++ log) col are.some later log refl (drop_later w x ok later log b)

pub finished : (w : Parties) (x : ConversingSlaves) (m : Machines) (c : Collector) → AreSlaves w x → AreMachines w x m → (rows : List (List ℤ)) (fault : Option RefFault) → IsReference m.sc rows fault → (later log : List LogEntry) → Behaves w x (later ++ log) → Collects w x m c (later ++ log) → FinishedIsWhole c rows fault log
finished w x m c ok are rows fault ref later log b col = all_rows w x m c ok are rows fault ref (later ++ log) col are.some later log refl (drop_later w x ok later log b)
