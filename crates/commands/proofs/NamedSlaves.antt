-- The slave behind so many others has the name.
use Rattle.std.proofs.Common.{◌≡◌, ℕ, Option, ◌+◌, zero, suc, ◌<◌, ◌≤◌, List, [], ◌∷◌, length, slice_index_or, arith, subst, sym}
use Rattle.std.specs.Prelude.{slice_get, IsSomeAnd}
use Rattle.slave_desc.specs.declared.descriptions.SlaveDesc.{SlaveDesc}
use Rattle.scenario.specs.Lookups.{slave_at}
use Rattle.commands.specs.SlaveNames.{IsNamed}

get_at : {A : Type 0} (xs : List A) (n : ℕ) (d : A) (Holds : A → Type 0) → n < length xs → Holds (slice_index_or xs n d) → IsSomeAnd (slice_get xs n) Holds
get_at [] n d Holds in_it h = absurd (omega (arith, in_it))
get_at (x ∷ xs) zero d Holds in_it h = h
get_at (x ∷ xs) (suc n) d Holds in_it h = get_at xs n d Holds (omega (arith, in_it)) h

slave_at_suc : (slaves : List SlaveDesc) (k : ℕ) → slave_at slaves (suc k) ≡ slice_get slaves k
slave_at_suc slaves k = grind arith

-- the slave behind so many others has the name
pub named_at : (slaves : List SlaveDesc) (place : ℕ) (d : SlaveDesc) (name : List ℕ) → place < length slaves → length slaves ≤ 16 → (slice_index_or slaves place d).name ≡ name → IsNamed slaves (place + 1) name
named_at slaves place d name in_it few is =
    let Holds : SlaveDesc → Type 0 = λ x. x.name ≡ name in
    let next : place + 1 ≡ suc place = omega arith in
    let There : Option SlaveDesc → Type 0 = λ o. IsSomeAnd o Holds in
    (omega arith, omega (arith, in_it, few), rw next (subst There (sym (slave_at_suc slaves place)) (get_at slaves place d Holds in_it is)))
