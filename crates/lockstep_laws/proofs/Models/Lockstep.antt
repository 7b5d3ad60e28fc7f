-- Each data message carries its row, and each model stands where the reference has it.
use Rattle.std.proofs.Common.{◌≡◌, ℕ, zero, suc, ◌+◌, ◌*◌, ◌/◌, ◌%◌, ◌<◌, ◌≤◌, Bool, true, false, if◌then◌else◌, ◌⊎◌, inl, inr, Option, Some, None, List, [], ◌∷◌, length, refl, sym, ap, ◌∙◌, subst, arith, ℤ, Ok}
use Rattle.std.specs.Prelude.{◌==◌}
use Rattle.std.specs.List.{cons_option}
use Rattle.std.proofs.lemmas.Bool.{eqb-true}
use Rattle.std.proofs.lemmas.Nat.{div-add-mod'}
use Rattle.dcp_types.specs.declared.addresses.Address.{Address}
use Rattle.lockstep.specs.declared.references.RefFault.{RefFault}
use Rattle.lockstep.specs.Lockstep.{state, model_state_after, shown, shown_at, IsReference}
use Rattle.log_spec.specs.Messages.{Note, value_of_id}
use Rattle.log_spec.specs.Channel.{by_ordinal, at_ordinal}
use Rattle.dcp_ends.specs.declared.entries.LogEntry.{LogEntry}
use Rattle.log_spec.specs.Log.{Parties, IsSlaveOf, role_heard, Values, sends_in, values_sent, requests_sent, DecidedRequest}
use Rattle.log_spec.specs.Moves.{Move, Asks, Comes, Tells, Hears, Brings, Turns, Rests, Other, move, decided_exchanges}
use Rattle.log_spec.proofs.Channel.{grown_next}
use Rattle.log_spec.proofs.Moves.{told}
use Rattle.lockstep_laws.specs.Slaves.{Post, Desk, tail, IsFirstPost, SlaveMay, ServesNote}
use Rattle.lockstep_laws.specs.Steps.{RowEvent, Show, Step, place_after, shown_after, run_after, Told, Begins, Does, Rested, Nothing, told_of, view, Bench, TakesOn, StepsOn, HasTurn}
use Rattle.lockstep_laws.specs.Cast.{ConversingSlaves}
use Rattle.lockstep_laws.specs.Runs.{AreSlaves, Behaves}
use Rattle.lockstep_laws.specs.Works.{Works}
use Rattle.lockstep_laws.proofs.Conversation.{earlier, known}
use Rattle.lockstep_laws.proofs.Barrier.{UnderWay, together, Goes, Leasts, goes}
use Rattle.lockstep_laws.proofs.Places.{fits, busy_is, show_is}
use Rattle.lockstep_laws.proofs.Asking.{asked_in_order}
use Rattle.lockstep_laws.specs.Models.Ordinals.{row_of_ordinal, ordinals_below}
use Rattle.lockstep_laws.specs.Models.Machines.{Store, Machines, values_owed, step_at, carried, IsRightNote, ordinal_here, Emits, AtTurn, Keeps, IsAskedInOrder, AreMachines}
use Rattle.lockstep_laws.proofs.Models.EachQth.{row_is}
use Rattle.lockstep_laws.proofs.Models.Values.{OwesValue, owes_value, Sends, first_value, in_order, values_by_move, sends_values, below_due}
use Rattle.lockstep_laws.proofs.Models.Kept.{kept_as_sent}
use Rattle.lockstep_laws.proofs.Models.Exists.{run_of_place, at_most}
use Rattle.lockstep_laws.proofs.Models.Shown.{Rows, StandsAt, row_is_there, under_same, under_way_of, half_more, half_odd}

-- ---- how the steps of a slave change
turn_moves : (b c : Bench) → HasTurn b c → StepsOn b c ⊎ ((c.steps ≡ b.steps) × (c.resets ≡ b.resets))
turn_moves b c (inl i) = inr (i.steps, i.resets)
turn_moves b c (inr (inl s)) = inr (s.steps, s.resets)
turn_moves b c (inr (inr (inl s))) = inl s
turn_moves b c (inr (inr (inr f))) = inr (f.steps, f.resets)

take_moves : (t : Told) (b c : Bench) → TakesOn t b c → (c.steps ≡ 0) ⊎ ((c.steps ≡ b.steps) × (c.resets ≡ b.resets))
take_moves (Begins k) b c h = inr (h.steps, h.resets)
take_moves Does b c h = inl h.steps
take_moves Rested b c h = inr (h.idles.steps, h.idles.resets)
take_moves Nothing b c h = inr (h.steps, h.resets)

abbrev Moves' : Bench → Bench → Type 0
Moves' b c = StepsOn b c ⊎ ((c.steps ≡ 0) ⊎ ((c.steps ≡ b.steps) × (c.resets ≡ b.resets)))

same_moves : (b c : Bench) → c ≡ b → Moves' b c
same_moves b c e = inr (inr (ap (λ z. z.steps) e, ap (λ z. z.resets) e))

moves_by : (mv : Move) (es es' : List DecidedRequest) (b c : Bench) → Works mv es es' b c → Moves' b c
moves_by (Asks n) es es' b c h = same_moves b c h
moves_by (Comes from receiver n) es es' b c (inl h) = inr (inr (h.1.steps, h.1.resets))
moves_by (Comes from receiver n) es es' b c (inr h) = inr (take_moves (told_of h.0) b c h.2)
moves_by (Tells to bytes) es es' b c h = same_moves b c h
moves_by (Hears n) es es' b c h = same_moves b c h
moves_by (Brings from id n) es es' b c h = inr (inr (h.steps, h.resets))
moves_by Turns es es' b c h = by (turn_moves b c h)
  where
    by : StepsOn b c ⊎ ((c.steps ≡ b.steps) × (c.resets ≡ b.resets)) → Moves' b c
    by (inl s) = inl s
    by (inr s) = inr (inr s)
moves_by Rests es es' b c h = inr (inr (h.steps, h.resets))
moves_by Other es es' b c h = same_moves b c h

whole : (n q : ℕ) → n % q ≡ 0 → q * (n / q) ≡ n
whole n q e = let d = div-add-mod' n q in let c : q * (n / q) ≡ n / q * q = omega arith in omega (arith, d, e, c)

module _ (w : Parties) (x : ConversingSlaves) (ok : AreSlaves w x) (m : Machines) (are : AreMachines w x m) (rows : List (List ℤ)) (fault : Option RefFault) (ref : IsReference m.sc rows fault) where
  -- ---- what was sent, and what is owed
  abbrev pub SentRight : ℕ → List Note → Type 0
  SentRight id sent' = (o : ℕ) (n : Note) → at_ordinal sent' o ≡ Some n → IsRightNote x m rows id o n

  abbrev pub AllRight : ℕ → ℕ → List Note → Type 0
  AllRight id o [] = Unit {0}
  AllRight id o (v ∷ vs) = IsRightNote x m rows id o v × AllRight id o vs

  pub record Lock (log : List LogEntry) : Type 0 where
    pub rows' : Rows w x ok m are rows fault ref log
    pub sent : (id : ℕ) → IsSlaveOf w (m.from id) → SentRight id (values_sent w id log)
    pub owed : (id : ℕ) → IsSlaveOf w (m.from id) → AllRight id (length (values_sent w id log)) (values_owed w id (x.desk (m.from id) log).owed)

  -- ---- a slave at which an event is under way
  module _ (log : List LogEntry) (b : Behaves w x log) (l : Lock log) (s : ℕ) (is : IsSlaveOf w s) (k : RowEvent) (busy : (x.bench s log).busy ≡ Some k) where
    run_here : (view (x.desk s log).served).done ≡ (x.bench s log).events → run_after x.steps (view (x.desk s log).served).done ≡ (x.bench s log).resets + 1
    run_here e =
        let p = (fits w x ok log b s is).placed in
        ap (run_after x.steps) e ∙ ap (λ a. a + 1) (run_of_place x.steps (x.bench s log).resets (x.bench s log).steps (place_after (x.bench s log).events) p.is p.most).0

    pub opened_busy : x.opened s ((x.bench s log).resets + 1) (x.desk s log).served ≡ true
    opened_busy =
        let u = under_same x.steps (view (x.desk s log).served) (x.bench s log) k busy (fits w x ok log b s is).counts in
        let P : ℕ → Type 0 = λ r. x.opened s r (x.desk s log).served ≡ true in
        subst P (run_here (sym u.0)) ((are.course s is).begun (x.desk s log).served (asked_in_order w x ok s is log b) (inl u.1))

    pub stands_busy : state m.sc rows s (m.desc s) ((x.bench s log).resets + 1) (x.bench s log).steps ≡ Ok (m.store s log).model
    stands_busy = l.rows'.stands s is (inr ((are.course s is).tuned ((x.bench s log).resets + 1) (x.desk s log).served opened_busy))

  -- ---- the model
  module _ (e : LogEntry) (log : List LogEntry) (b : Behaves w x (e ∷ log)) (l : Lock log) (s : ℕ) (is : IsSlaveOf w s) where
    before : Behaves w x log
    before = earlier w x ok e log b

    order : IsAskedInOrder w x s (e ∷ log)
    order = in_order w x ok m are (e ∷ log) b s is

    stepped : StepsOn (x.bench s log) (x.bench s (e ∷ log)) → state m.sc rows s (m.desc s) ((x.bench s (e ∷ log)).resets + 1) (x.bench s (e ∷ log)).steps ≡ Ok (m.store s (e ∷ log)).model
    stepped st =
        let r = (x.bench s log).resets + 1 in
        let n = (x.bench s log).steps in
        let here = stands_busy log before l s is Step st.under_way in
        let on = (are.holds s is).steps e log order st rows ref.each (at_most m.sc rows fault ref.ends) (λ id f k q. l.sent id (are.feeds s id f) k.ordinal k.note (kept_as_sent w x ok m are log before s is id (are.feeds s id f) k q)) in
        let next : state m.sc rows s (m.desc s) r (suc n) ≡ Ok (m.store s (e ∷ log)).model = ap (model_state_after m.sc rows s (m.desc s) r n) here ∙ on in
        let one : suc n ≡ (x.bench s (e ∷ log)).steps = omega (arith, st.steps) in
        let P : ℕ → ℕ → Type 0 = λ a i. state m.sc rows s (m.desc s) (a + 1) i ≡ Ok (m.store s (e ∷ log)).model in
        subst (λ a. P a (x.bench s (e ∷ log)).steps) (sym st.resets) (subst (λ i. P (x.bench s log).resets i) one next)

    stayed : (x.bench s (e ∷ log)).steps ≡ (x.bench s log).steps → (x.bench s (e ∷ log)).resets ≡ (x.bench s log).resets → 0 < (x.bench s (e ∷ log)).steps → state m.sc rows s (m.desc s) ((x.bench s (e ∷ log)).resets + 1) (x.bench s (e ∷ log)).steps ≡ Ok (m.store s (e ∷ log)).model
    stayed n r pos =
        let here = l.rows'.stands s is (inl (omega (arith, n, pos))) in
        let same = (are.holds s is).still e log order pos n in
        let P : ℕ → ℕ → Type 0 = λ a i. state m.sc rows s (m.desc s) (a + 1) i ≡ Ok (m.store s (e ∷ log)).model in
        subst (λ a. P a (x.bench s (e ∷ log)).steps) (sym r) (subst (λ i. P (x.bench s log).resets i) (sym n) (here ∙ ap (λ (y : List ℤ). Ok y) (sym same)))

    at_first : (x.bench s (e ∷ log)).steps ≡ zero → m.tuned s ((x.bench s (e ∷ log)).resets + 1) (x.desk s (e ∷ log)).served ≡ true → state m.sc rows s (m.desc s) ((x.bench s (e ∷ log)).resets + 1) (x.bench s (e ∷ log)).steps ≡ Ok (m.store s (e ∷ log)).model
    at_first z t =
        let h = (are.holds s is).tuned (e ∷ log) order z t in
        ap (state m.sc rows s (m.desc s) ((x.bench s (e ∷ log)).resets + 1)) z ∙ ap (λ (y : List ℤ). Ok y) (sym h)

    stands_next : StandsAt w x ok m are rows fault ref s (e ∷ log)
    stands_next (inr t) = by (x.bench s (e ∷ log)).steps refl
      where
        by : (n : ℕ) → (x.bench s (e ∷ log)).steps ≡ n → state m.sc rows s (m.desc s) ((x.bench s (e ∷ log)).resets + 1) (x.bench s (e ∷ log)).steps ≡ Ok (m.store s (e ∷ log)).model
        by zero z = at_first z t
        by (suc n) z = later (moves_by (move w s e) (x.desk s log).served (x.desk s (e ∷ log)).served (x.bench s log) (x.bench s (e ∷ log)) ((ok.works s is).goes e log (b.slaves s is).0))
          where
            later : Moves' (x.bench s log) (x.bench s (e ∷ log)) → state m.sc rows s (m.desc s) ((x.bench s (e ∷ log)).resets + 1) (x.bench s (e ∷ log)).steps ≡ Ok (m.store s (e ∷ log)).model
            later (inl st) = stepped st
            later (inr (inl no')) = absurd (omega (arith, no', z))
            later (inr (inr k)) = stayed k.0 k.1 (omega (arith, z))
    stands_next (inl pos) = later (moves_by (move w s e) (x.desk s log).served (x.desk s (e ∷ log)).served (x.bench s log) (x.bench s (e ∷ log)) ((ok.works s is).goes e log (b.slaves s is).0))
      where
        later : Moves' (x.bench s log) (x.bench s (e ∷ log)) → state m.sc rows s (m.desc s) ((x.bench s (e ∷ log)).resets + 1) (x.bench s (e ∷ log)).steps ≡ Ok (m.store s (e ∷ log)).model
        later (inl st) = stepped st
        later (inr (inl no')) = absurd (omega (arith, no', pos))
        later (inr (inr k)) = stayed k.0 k.1 pos

    -- ---- the rows
    the_goes : Goes x.steps (Leasts w x s log) (requests_sent w s log) (decided_exchanges w s log) (requests_sent w s (e ∷ log)) (decided_exchanges w s (e ∷ log))
    the_goes = goes w x ok e log b s is ((together w x ok log before).alone s is)

    told_next : shown_after (view (decided_exchanges w s (e ∷ log))).done ≤ length rows
    told_next = by the_goes.grows
      where
        j : ℕ
        j = (view (decided_exchanges w s log)).done

        more : UnderWay (requests_sent w s log) (decided_exchanges w s log) → (r : ℕ) → (view (decided_exchanges w s log)).done % 2 ≡ r → ((view (decided_exchanges w s log)).done + 1 + 1) / 2 ≤ length rows
        more u zero z = let lt = l.rows'.exist s is u z in let h = half_more (view (decided_exchanges w s log)).done z in omega (arith, lt, h)
        more u (suc r) z = let t = l.rows'.told s is in let h = half_odd (view (decided_exchanges w s log)).done (λ q. absurd (omega (arith, q, z))) in omega (arith, t, h)

        by : ((view (decided_exchanges w s (e ∷ log))).done ≡ (view (decided_exchanges w s log)).done) ⊎ (UnderWay (requests_sent w s log) (decided_exchanges w s log) × ((view (decided_exchanges w s (e ∷ log))).done ≡ (view (decided_exchanges w s log)).done + 1) × (UnderWay (requests_sent w s (e ∷ log)) (decided_exchanges w s (e ∷ log)) → ⊥)) → shown_after (view (decided_exchanges w s (e ∷ log))).done ≤ length rows
        by (inl same) = let t = l.rows'.told s is in let q = ap shown_after same in omega (arith, t, q)
        by (inr p) = let t = more p.0 ((view (decided_exchanges w s log)).done % 2) refl in let q = ap shown_after p.1 in omega (arith, t, q)

    exist_next : UnderWay (requests_sent w s (e ∷ log)) (decided_exchanges w s (e ∷ log)) → (view (decided_exchanges w s (e ∷ log))).done % 2 ≡ 0 → place_after (view (decided_exchanges w s (e ∷ log))).done < length rows
    exist_next u even = by the_goes.grows
      where
        old : (view (decided_exchanges w s (e ∷ log))).done ≡ (view (decided_exchanges w s log)).done → UnderWay (requests_sent w s log) (decided_exchanges w s log) ⊎ Leasts w x s log → place_after (view (decided_exchanges w s (e ∷ log))).done < length rows
        old same (inl v) = let lt = l.rows'.exist s is v (ap (λ z. z % 2) (sym same) ∙ even) in let q = ap place_after same in omega (arith, lt, q)
        old same (inr least) = let lt = row_is_there w x ok m are rows fault ref log before l.rows' s is least.0 least.1 (ap (λ z. z % 2) (sym same) ∙ even) in let q = ap place_after same in omega (arith, lt, q)

        by : ((view (decided_exchanges w s (e ∷ log))).done ≡ (view (decided_exchanges w s log)).done) ⊎ (UnderWay (requests_sent w s log) (decided_exchanges w s log) × ((view (decided_exchanges w s (e ∷ log))).done ≡ (view (decided_exchanges w s log)).done + 1) × (UnderWay (requests_sent w s (e ∷ log)) (decided_exchanges w s (e ∷ log)) → ⊥)) → place_after (view (decided_exchanges w s (e ∷ log))).done < length rows
        by (inl same) = old same (the_goes.begins u)
        by (inr p) = absurd (p.2 u)

  -- ---- what a turn that shows a row owes
  module _ (log : List LogEntry) (b : Behaves w x log) (l : Lock log) (id : ℕ) (is : IsSlaveOf w (m.from id)) where
    abbrev s : ℕ
    s = m.from id

    right_here : (posts : List Post) (n : Note) → (x.bench s log).busy ≡ Some Show → (x.bench s log).steps % m.q id ≡ 0 → n.number ≡ ordinal_here x m id (x.bench s log) % 65536
        → (vs : List ℤ) → shown_at m.sc s (m.desc s) ((x.bench s log).resets + 1) (Ok (m.store s log).model) ≡ Ok vs → carried n ≡ m.payload id vs → IsRightNote x m rows id (ordinal_here x m id (x.bench s log)) n
    right_here posts n busy due num vs shows carries =
        let c = x.bench s log in
        let f = fits w x ok log b s is in
        let k = known w x ok s is log b in
        let t = together w x ok log b in
        let u = under_way_of x.steps (requests_sent w s log) (decided_exchanges w s log) (x.desk s log).served c Show k.talk.taken k.talk.decided k.talk.asked (t.alone s is) busy f.counts in
        let even = show_is x.steps c.events (busy_is x.steps Show (view (x.desk s log).served) c busy f.counts) in
        let lt = l.rows'.exist s is u.1 (ap (λ z. z % 2) (sym u.0) ∙ even) in
        let row : row_of_ordinal x.steps (m.q id) (ordinal_here x m id c) ≡ c.resets * (x.steps + 1) + c.steps = row_is x.steps (m.q id) c.resets c.steps (are.q id) f.placed.most ∙ ap (λ z. c.resets * (x.steps + 1) + z) (whole c.steps (m.q id) due) in
        let at = run_of_place x.steps c.resets c.steps (row_of_ordinal x.steps (m.q id) (ordinal_here x m id c)) row f.placed.most in
        let P : ℕ → ℕ → Type 0 = λ r i. shown m.sc rows s (m.desc s) r i ≡ Ok vs in
        record {
          number = num;
          exists = omega (arith, row, f.placed.is, ap place_after u.0, lt);
          values = vs;
          shows = subst (λ r. P r (step_at x.steps (row_of_ordinal x.steps (m.q id) (ordinal_here x m id c)))) (sym (ap (λ a. a + 1) at.0)) (subst (λ i. P (c.resets + 1) i) (sym at.1) (ap (shown_at m.sc s (m.desc s) (c.resets + 1)) (stands_busy log b l s is Show busy) ∙ shows));
          carries = carries;
        }

    none_right : (o : ℕ) (notes : List Note) → notes ≡ [] → AllRight id o notes
    none_right o notes e = let P : List Note → Type 0 = AllRight id o in subst P (sym e) tt

    one_right : (o : ℕ) (n : Note) (notes : List Note) → notes ≡ n ∷ [] → IsRightNote x m rows id o n → AllRight id o notes
    one_right o n notes e r = let P : List Note → Type 0 = AllRight id o in subst P (sym e) (r, tt)

    shows_right : (posts : List Post) → (x.desk s log).owed ≡ [] → (x.bench s log).busy ≡ Some Show → Emits w x m s id (x.bench s log) (m.store s log) posts → AllRight id (length (values_sent w id log)) (values_owed w id posts)
    shows_right posts none busy em = by ((x.bench s log).steps % m.q id) refl
      where
        by : (r : ℕ) → (x.bench s log).steps % m.q id ≡ r → AllRight id (length (values_sent w id log)) (values_owed w id posts)
        by (suc r) z = none_right (length (values_sent w id log)) (values_owed w id posts) (em.unsent (λ q. absurd (omega (arith, q, z))))
        by zero z =
            let d = em.sent z in
            let f = fits w x ok log b s is in
            let even = show_is x.steps (x.bench s log).events (busy_is x.steps Show (view (x.desk s log).served) (x.bench s log) busy f.counts) in
            let v = sends_values w x ok m are id is log b in
            let Q : List Post → Type 0 = λ ps. OwesValue (values_owed w id ps) (values_sent w id log) (ordinals_below x.steps (m.q id) (shown_after (x.bench s log).events)) in
            let len : length (values_sent w id log) ≡ ordinals_below x.steps (m.q id) (shown_after (x.bench s log).events) = subst Q none v.owes in
            let same = len ∙ below_due w x m s id refl (are.q id) (x.bench s log) f.placed even z in
            let r = right_here posts d.0 busy z d.2 (d.3).0 (d.3).1 (d.3).2 in
            let P : ℕ → Type 0 = λ o. IsRightNote x m rows id o d.0 in
            one_right (length (values_sent w id log)) d.0 (values_owed w id posts) d.1 (subst P (sym same) r)

    turn_right : (c : Bench) (v : Store) (posts : List Post) → (x.desk s log).owed ≡ [] → HasTurn (x.bench s log) c → AtTurn w x m s (x.bench s log) c (m.store s log) v posts → AllRight id (length (values_sent w id log)) (values_owed w id posts)
    turn_right c v posts none (inl i) at = none_right (length (values_sent w id log)) (values_owed w id posts) (at.quiet (inl i) id)
    turn_right c v posts none (inr (inl sh)) at = shows_right posts none sh.under_way (at.shows sh id refl)
    turn_right c v posts none (inr (inr (inl st))) at = none_right (length (values_sent w id log)) (values_owed w id posts) (at.quiet (inr (inl st)) id)
    turn_right c v posts none (inr (inr (inr fa))) at = none_right (length (values_sent w id log)) (values_owed w id posts) (at.quiet (inr (inr fa)) id)

    moved_right : (o o' : ℕ) (ns ns' : List Note) → o' ≡ o → ns' ≡ ns → AllRight id o ns → AllRight id o' ns'
    moved_right o o' ns ns' e f h = let P : ℕ → List Note → Type 0 = AllRight id in subst (λ k. P k ns') (sym e) (subst (λ l. P o l) (sym f) h)

    -- the message that is told is the one that was owed
    sent_one : (v : Note) (sent' : List Note) → IsRightNote x m rows id (length sent') v → SentRight id sent' → SentRight id (v ∷ sent')
    sent_one v sent' r h o n at = by (o == length sent') refl at
      where
        P : ℕ → Note → Type 0
        P i k = IsRightNote x m rows id i k

        by : (c : Bool) → (o == length sent') ≡ c → (if c then Some v else at_ordinal sent' o) ≡ Some n → IsRightNote x m rows id o n
        by true e q = let same : v ≡ n = cc in let z = eqb-true o (length sent') e in subst (λ i. P i n) (sym z) (subst (λ k. P (length sent') k) same r)
        by false e q = h o n q

    tells_right : (o : Option Note) (owed : List Note) (many : ℕ) → Sends (sends_in w (Values id) log) (cons_option o owed) many → AllRight id (length (values_sent w id log)) (cons_option o owed) → SentRight id (values_sent w id log)
        → SentRight id (by_ordinal (cons_option o (sends_in w (Values id) log))) × AllRight id (length (by_ordinal (cons_option o (sends_in w (Values id) log)))) owed
    tells_right None owed many v a h = (h, a)
    tells_right (Some n) owed many v a h =
        let c = owes_value n owed (values_sent w id log) many v.owes in
        let on = grown_next n (sends_in w (Values id) log) v.regular c.2 in
        let P : List Note → Type 0 = SentRight id in
        (subst P (sym on) (sent_one n (values_sent w id log) a.0 h), none_right (length (by_ordinal (n ∷ sends_in w (Values id) log))) owed c.0)

    abbrev Both : Move → Desk → Type 0
    Both mv d = SentRight id (by_ordinal (cons_option (told (λ y. value_of_id id (role_heard w y)) mv) (sends_in w (Values id) log))) × AllRight id (length (by_ordinal (cons_option (told (λ y. value_of_id id (role_heard w y)) mv) (sends_in w (Values id) log)))) (values_owed w id d.owed)

    tells_both : (to : Address) (bytes : List ℕ) (d : Desk) → IsFirstPost (x.desk s log).owed to bytes → d.owed ≡ tail (x.desk s log).owed → Both (Tells to bytes) d
    tells_both to bytes d first rest =
        let f = first_value w id to bytes (x.desk s log).owed first in
        let many = ordinals_below x.steps (m.q id) (shown_after (x.bench s log).events) in
        let P : List Note → Type 0 = λ ns. Sends (sends_in w (Values id) log) ns many in
        let Q : List Note → Type 0 = AllRight id (length (values_sent w id log)) in
        let t = tells_right (value_of_id id (role_heard w bytes)) (values_owed w id (tail (x.desk s log).owed)) many (subst P f (sends_values w x ok m are id is log b)) (subst Q f (l.owed id is)) (l.sent id is) in
        let o = length (by_ordinal (cons_option (value_of_id id (role_heard w bytes)) (sends_in w (Values id) log))) in
        (t.0, moved_right o o (values_owed w id (tail (x.desk s log).owed)) (values_owed w id d.owed) refl (ap (values_owed w id) rest) t.1)

    same_both : (d : Desk) → d ≡ x.desk s log → SentRight id (values_sent w id log) × AllRight id (length (values_sent w id log)) (values_owed w id d.owed)
    same_both d e = (l.sent id is, moved_right (length (values_sent w id log)) (length (values_sent w id log)) (values_owed w id (x.desk s log).owed) (values_owed w id d.owed) refl (ap (λ z. values_owed w id z.owed) e) (l.owed id is))

    quiet_both : (d : Desk) → values_owed w id d.owed ≡ [] → SentRight id (values_sent w id log) × AllRight id (length (values_sent w id log)) (values_owed w id d.owed)
    quiet_both d e = (l.sent id is, none_right (length (values_sent w id log)) (values_owed w id d.owed) e)

    pub both_step : (accepts : Note → Bool) (mv : Move) (d : Desk) (c : Bench) (v : Store) → SlaveMay mv (x.desk s log).owed → ServesNote w accepts mv (x.desk s log) d → Works mv (x.desk s log).served d.served (x.bench s log) c → Keeps w x m s mv (x.bench s log) c (m.store s log) v d.owed → Both mv d
    both_step accepts (Asks n) d c v may sv wk k = same_both d sv
    both_step accepts (Comes from receiver n) d c v may sv wk k = quiet_both d (k.0 id)
    both_step accepts (Tells to bytes) d c v may sv wk k = tells_both to bytes d may sv.1
    both_step accepts (Hears n) d c v may sv wk k = same_both d sv
    both_step accepts (Brings from i n) d c v may sv wk k = quiet_both d (k.0 id)
    both_step accepts Turns d c v may sv wk k = (l.sent id is, turn_right c v d.owed may wk k)
    both_step accepts Rests d c v may sv wk k = quiet_both d (k.0 id)
    both_step accepts Other d c v may sv wk k = same_both d sv

  -- ---- every moment
  lock_first : Behaves w x [] → Lock []
  lock_first b = record {
    rows' = record {
      stands = λ s is h. first s is h;
      told = λ s is. omega arith;
      exist = λ s is u even. absurd (none s u);
    };
    sent = λ id is o n at. absurd cc;
    owed = λ id is. let P : List Note → Type 0 = AllRight id 0 in subst P (sym (ap (λ z. values_owed w id z.owed) (ok.each (m.from id) is).begins)) tt;
  }
    where
      none : (s : ℕ) → UnderWay (requests_sent w s []) (decided_exchanges w s []) → ⊥
      none s (inl wait) = absurd cc
      none s (inr o) = absurd o.event

      first : (s : ℕ) → IsSlaveOf w s → (0 < (x.bench s []).steps) ⊎ (m.tuned s ((x.bench s []).resets + 1) (x.desk s []).served ≡ true) → state m.sc rows s (m.desc s) ((x.bench s []).resets + 1) (x.bench s []).steps ≡ Ok (m.store s []).model
      first s is (inl pos) = absurd (omega (arith, pos, ap (λ z. z.steps) (ok.works s is).begins))
      first s is (inr t) =
          let z : (x.bench s []).steps ≡ 0 = ap (λ z. z.steps) (ok.works s is).begins in
          let h = (are.holds s is).tuned [] (in_order w x ok m are [] b s is) z t in
          ap (state m.sc rows s (m.desc s) ((x.bench s []).resets + 1)) z ∙ ap (λ (y : List ℤ). Ok y) (sym h)

  pub lock : (log : List LogEntry) → Behaves w x log → Lock log
  lock [] b = lock_first b
  lock (e ∷ log) b =
      let before' = earlier w x ok e log b in
      let l = lock log before' in
      let both = λ (id : ℕ) (is : IsSlaveOf w (m.from id)).
      let s = m.from id in
      let may = (b.slaves s is).0 in
      let P : Option Note → Type 0 = λ n. SentRight id (by_ordinal (cons_option n (sends_in w (Values id) log))) × AllRight id (length (by_ordinal (cons_option n (sends_in w (Values id) log)))) (values_owed w id (x.desk s (e ∷ log)).owed) in
      subst P (sym (values_by_move w x ok m are id is e log b)) (both_step log before' l id is (x.accepts s) (move w s e) (x.desk s (e ∷ log)) (x.bench s (e ∷ log)) (m.store s (e ∷ log)) may ((ok.each s is).goes e log may) ((ok.works s is).goes e log may) ((are.holds s is).goes e log (in_order w x ok m are (e ∷ log) b s is))) in
      record {
        rows' = record {
          stands = λ s is. stands_next e log b l s is;
          told = λ s is. told_next e log b l s is;
          exist = λ s is. exist_next e log b l s is;
        };
        sent = λ id is. (both id is).0;
        owed = λ id is. (both id is).1;
      }
