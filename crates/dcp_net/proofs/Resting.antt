-- Whether an address rests, along the calls.
use Rattle.std.proofs.Common.{◌≡◌, ℕ, ◌+◌, ◌<◌, List, [], ◌∷◌, ◌++◌, length, take, get_or, Bool, None, Some, refl, sym, ◌∙◌, ap}
use Rattle.std.proofs.lemmas.List.{take_more}
use Rattle.dcp_types.specs.declared.addresses.Address.{Address}
use Rattle.dcp_ends.specs.declared.entries.LogEntry.{LogEntry}
use Rattle.dcp_net.specs.Scripts.{took_at, newest_of, rests_after}

rests_after-append : (at : Address) (rests : Bool) (calls : List LogEntry) (call : LogEntry) → rests_after at rests (calls ++ call ∷ []) ≡ newest_of (took_at at call) (rests_after at rests calls)
rests_after-append at rests [] call = refl
rests_after-append at rests (c ∷ calls) call = rests_after-append at (newest_of (took_at at c) rests) calls call

-- the last of the first i calls decides, where it was a take at this address
module _ (at : Address) (rests : Bool) (calls : List LogEntry) (i j : ℕ) (call : LogEntry) (next : i ≡ j + 1) (here : j < length calls) (is : call ≡ get_or calls j call) where
  last : rests_after at rests (take i calls) ≡ newest_of (took_at at call) (rests_after at rests (take j calls))
  last =
      ap (λ (n : ℕ). rests_after at rests (take n calls)) next ∙ ap (rests_after at rests) (take_more calls j call here) ∙ rests_after-append at rests (take j calls) (get_or calls j call)
      ∙ ap (λ (c : LogEntry). newest_of (took_at at c) (rests_after at rests (take j calls))) (sym is)

  pub last_decides : (gave : Bool) → Some gave ≡ took_at at call → gave ≡ rests_after at rests (take i calls)
  last_decides gave took = sym (last ∙ ap (λ o. newest_of o (rests_after at rests (take j calls))) (sym took))

  pub last_is_other : None ≡ took_at at call → rests_after at rests (take i calls) ≡ rests_after at rests (take j calls)
  last_is_other other = last ∙ ap (λ o. newest_of o (rests_after at rests (take j calls))) (sym other)
