-- When a slave took each of its requests, and that a fault stays.
use Rattle.std.proofs.Common.{◌≡◌, ℕ, List, [], ◌∷◌, ◌++◌, refl, sym, ap, ◌∙◌}
use Rattle.dcp_ends.specs.declared.entries.LogEntry.{LogEntry}
use Rattle.log_spec.specs.Log.{Parties, DecidedRequest}
use Rattle.log_spec.specs.Moves.{move}
use Rattle.slave_spec.specs.declared.words.SlaveSetup.{SlaveSetup}
use Rattle.slave_spec.specs.Plants.{Plant}
use Rattle.slave_spec.specs.Slaves.{machine}
use Rattle.slave_laws.specs.Talk.Desks.{Both, at}
use Rattle.slave_laws.specs.Talk.Sends.{ReadsMessages}
use Rattle.slave_laws.specs.Model.Models.{plant_at}
use Rattle.slave_laws.proofs.Model.Along.{exchanged}
use Rattle.slave_laws.specs.Model.Tuned.{served_at}
use Rattle.completeness_laws.proofs.Causes.Goings.{Takes, Goes, stays, takes, brings, turns_on, goes}

module _ (s : SlaveSetup) (w : Parties) (n : ℕ) (rd : ReadsMessages w) where
  abbrev x : List LogEntry → Both Plant
  x log = at (machine s) w n log

  -- after these exchanges it took a request with this exchange
  pub record WasTaken (log : List LogEntry) (d : DecidedRequest) (es : List DecidedRequest) : Type 0 where
    pub later : List LogEntry
    pub entry : LogEntry
    pub earlier : List LogEntry
    pub is : log ≡ later ++ entry ∷ earlier
    pub before : served_at s w n earlier ≡ es
    pub takes_it : Takes s (x earlier) (x (entry ∷ earlier))
    pub exchange : d ≡ exchanged s (plant_at s w n earlier) takes_it.request takes_it.note takes_it.next'

  head_same : (a b : DecidedRequest) (as' bs : List DecidedRequest) → a ∷ as' ≡ b ∷ bs → (a ≡ b) × (as' ≡ bs)
  head_same a b as' bs e = (cc, cc)

  none_there : (more es : List DecidedRequest) (d : DecidedRequest) → [] ≡ more ++ d ∷ es → ⊥
  none_there [] es d e = cc
  none_there (m ∷ more) es d e = cc

  earlier_taken : (e : LogEntry) (log : List LogEntry) (d : DecidedRequest) (es : List DecidedRequest) → WasTaken log d es → WasTaken (e ∷ log) d es
  earlier_taken e log d es k = record { later = e ∷ k.later; entry = k.entry; earlier = k.earlier; is = ap (λ (l : List LogEntry). e ∷ l) k.is; before = k.before; takes_it = k.takes_it; exchange = k.exchange }

  pub was_taken : (log : List LogEntry) (more es : List DecidedRequest) (d : DecidedRequest) → served_at s w n log ≡ more ++ d ∷ es → WasTaken log d es
  was_taken [] more es d h = absurd (none_there more es d h)
  was_taken (e ∷ log) more es d h = by (goes s w n rd e log) (λ more h. was_taken log more es d h)
    where
      Rest : Type 0
      Rest = (more : List DecidedRequest) → served_at s w n log ≡ more ++ d ∷ es → WasTaken log d es

      by : Goes s (move w n e) (x log) (x (e ∷ log)) → Rest → WasTaken (e ∷ log) d es
      by (stays p v) f = earlier_taken e log d es (f more (sym v ∙ h))
      by (brings t) f = earlier_taken e log d es (f more (sym t.served ∙ h))
      by (turns_on mv t) f = earlier_taken e log d es (f more (sym t.served ∙ h))
      by (takes t) f = two more (sym t.served ∙ h)
        where
          new : DecidedRequest
          new = exchanged s (x log).slave.inner t.request t.note t.next'

          two : (more : List DecidedRequest) → new ∷ served_at s w n log ≡ more ++ d ∷ es → WasTaken (e ∷ log) d es
          two [] g = let z = head_same new d (served_at s w n log) es g in record { later = []; entry = e; earlier = log; is = refl; before = z.1; takes_it = t; exchange = sym z.0 }
          two (m ∷ more) g = earlier_taken e log d es (f more (head_same new m (served_at s w n log) (more ++ d ∷ es) g).1)
