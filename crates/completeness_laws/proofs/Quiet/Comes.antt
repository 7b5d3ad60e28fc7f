-- What is sent waits until it is got.
use Rattle.std.proofs.Common.{◌≡◌, ℕ, ◌⊎◌, inl, inr, List, [], ◌∷◌, ◌++◌, sym, ap, ◌∙◌, subst}
use Rattle.std.proofs.lemmas.Bool.{and_parts}
use Rattle.dcp_types.specs.declared.addresses.Address.{Address}
use Rattle.dcp_ends.specs.Logs.{same_address}
use Rattle.dcp_ends.specs.declared.entries.LogEntry.{LogEntry}
use Rattle.dcp_ends.specs.declared.entries.LogEntry.TheVariants.{Sent, Got, Idle, Turn}
use Rattle.dcp_net.specs.declared.openings.Opening.{Opening}
use Rattle.dcp_net.specs.Firsts.{without_first}
use Rattle.net_world.specs.declared.deliveries.Arrival.{Arrival}
use Rattle.net_world.specs.Deliveries.{is_due_now, is_ready_for}
use Rattle.net_world.specs.Messages.{messages}
use Rattle.completeness_laws.specs.Quiet.{IsQuietPlan}
use Rattle.completeness_laws.proofs.Quiet.Lists.{Among, among_without, first_passes}
use Rattle.completeness_laws.proofs.Quiet.Nets.{told, among_new, among_place, Given, pending, given_before, IsTaken, got_given, pending_got, pending_idle, pending_turn, letter, pending_sent}
use Rattle.completeness_laws.proofs.Quiet.Fronts.{address_is}

module _ (o : Opening) (quiet : IsQuietPlan o.plan) where
  -- the message that was sent after these entries was got in this later part, and waited up to then
  pub record WasGot (from to : Address) (bytes : List ℕ) (earlier part : List LogEntry) : Type 0 where
    pub after : List LogEntry
    pub before : List LogEntry
    pub is : part ≡ after ++ Got to from bytes ∷ before
    pub waited : Among (letter o earlier from to bytes) (pending o (before ++ Sent from to bytes ∷ earlier))

  got_later : (e : LogEntry) (from to : Address) (bytes : List ℕ) (earlier part : List LogEntry) → WasGot from to bytes earlier part → WasGot from to bytes earlier (e ∷ part)
  got_later e from to bytes earlier part g = record { after = e ∷ g.after; before = g.before; is = ap (λ (l : List LogEntry). e ∷ l) g.is; waited = g.waited }

  pub comes_or_waits : (part : List LogEntry) (from to : Address) (bytes : List ℕ) (earlier : List LogEntry) → Given o (part ++ Sent from to bytes ∷ earlier)
      → WasGot from to bytes earlier part ⊎ Among (letter o earlier from to bytes) (pending o (part ++ Sent from to bytes ∷ earlier))
  comes_or_waits [] from to bytes earlier given = let P : List Arrival → Type 0 = Among (letter o earlier from to bytes) in inr (subst P (sym (pending_sent o quiet from to bytes earlier)) (among_new (letter o earlier from to bytes) (pending o earlier)))
  comes_or_waits (e ∷ part) from to bytes earlier given = by (comes_or_waits part from to bytes earlier (given_before o e (part ++ Sent from to bytes ∷ earlier) given))
    where
      F : List LogEntry
      F = part ++ Sent from to bytes ∷ earlier

      d : Arrival
      d = letter o earlier from to bytes

      P : List Arrival → Type 0
      P w = Among d w

      on : (e : LogEntry) → Given o (e ∷ F) → Among d (pending o F) → WasGot from to bytes earlier (e ∷ part) ⊎ Among d (pending o (e ∷ F))
      on (Sent f t b) g m = inr (subst P (sym (pending_sent o quiet f t b F)) (among_place (letter o F f t b) d (pending o F) m))
      on (Idle a) g m = inr (subst P (sym (pending_idle o a F)) m)
      on (Turn a) g m = inr (subst P (sym (pending_turn o a F)) m)
      on (Got a f b) g m = two (among_without (is_ready_for a (messages (told F))) (pending o F) t.taken d t.is m)
        where
          t : IsTaken o a f b F
          t = got_given o a f b F g

          two : (d ≡ t.taken) ⊎ Among d (without_first (is_ready_for a (messages (told F))) (pending o F)) → WasGot from to bytes earlier (Got a f b ∷ part) ⊎ Among d (pending o (Got a f b ∷ F))
          two (inr n) = inr (subst P (sym (pending_got o a f b F)) n)
          two (inl z) =
              let ready = first_passes (is_ready_for a (messages (told F))) (pending o F) t.taken t.is in
              let at_is : t.taken.to ≡ a = address_is t.taken.to a (and_parts (same_address t.taken.to a) (is_due_now (messages (told F)) t.taken) ready).0 in
              let x : a ≡ to = sym at_is ∙ ap (λ (k : Arrival). k.to) (sym z) in
              let y : f ≡ from = t.sender ∙ ap (λ (k : Arrival). k.from) (sym z) in
              let w : b ≡ bytes = t.message ∙ ap (λ (k : Arrival). k.bytes) (sym z) in
              let e : Got a f b ≡ Got to from bytes = ap (λ (k : Address). Got k f b) x ∙ ap (λ (k : Address). Got to k b) y ∙ ap (λ (k : List ℕ). Got to from k) w in
              inl (record { after = []; before = part; is = ap (λ (k : LogEntry). k ∷ part) e; waited = m })

      by : WasGot from to bytes earlier part ⊎ Among d (pending o F) → WasGot from to bytes earlier (e ∷ part) ⊎ Among d (pending o (e ∷ F))
      by (inl g) = inl (got_later e from to bytes earlier part g)
      by (inr m) = on e given m
