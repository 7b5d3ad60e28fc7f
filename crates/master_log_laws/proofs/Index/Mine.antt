-- What is sent to one address, among what is sent to all.
use Rattle.std.proofs.Common.{◌≡◌, ℕ, zero, suc, Bool, true, false, if◌then◌else◌, Some, List, [], ◌∷◌, ◌++◌, map, refl, ap, ◌∙◌, arith}
use Rattle.std.specs.Prelude.{◌==◌, ◌&&◌, slice_get}
use Rattle.std.specs.List.{flat_map}
use Rattle.std.specs.Option.{option_map}
use Rattle.std.proofs.lemmas.Option.{slice_get-map}
use Rattle.std.proofs.lemmas.Bool.{eq-eqb}
use Rattle.dcp_types.specs.declared.addresses.Address.{Address}
use Rattle.dcp_ends.specs.Events.{Send}
use Rattle.dcp_ends.specs.Logs.{same_address}
use Rattle.master_spec.specs.Course.{CourseTalk, send_to}
use Rattle.master_log_laws.specs.Index.Follows.{mine}

pub same_self : (a : Address) → same_address a a ≡ true
same_self a = both (a.ip == a.ip) (a.port == a.port) (eq-eqb a.ip a.ip refl) (eq-eqb a.port a.port refl)
  where
    both : (x y : Bool) → x ≡ true → y ≡ true → (x && y) ≡ true
    both true true p q = refl
    both true false p q = absurd cc
    both false y p q = absurd cc

pub mine_append : (a : Address) (xs ys : List Send) → mine a (xs ++ ys) ≡ mine a xs ++ mine a ys
mine_append a [] ys = refl
mine_append a (x ∷ xs) ys = by (same_address x.to a) (mine_append a xs ys)
  where
    by : (b : Bool) → mine a (xs ++ ys) ≡ mine a xs ++ mine a ys → (if b then x.bytes ∷ mine a (xs ++ ys) else mine a (xs ++ ys)) ≡ (if b then x.bytes ∷ mine a xs else mine a xs) ++ mine a ys
    by true h = ap (λ z. x.bytes ∷ z) h
    by false h = h

mine_none : (a b : Address) (ms : List (List ℕ)) → same_address b a ≡ false → mine a (map (send_to b) ms) ≡ []
mine_none a b [] e = refl
mine_none a b (m ∷ ms) e = ap (λ t. if t then m ∷ mine a (map (send_to b) ms) else mine a (map (send_to b) ms)) e ∙ mine_none a b ms e

mine_all : (a b : Address) (ms : List (List ℕ)) → same_address b a ≡ true → mine a (map (send_to b) ms) ≡ ms
mine_all a b [] e = refl
mine_all a b (m ∷ ms) e = ap (λ t. if t then m ∷ mine a (map (send_to b) ms) else mine a (map (send_to b) ms)) e ∙ ap (λ z. m ∷ z) (mine_all a b ms e)

sends_of : (CourseTalk → List (List ℕ)) → CourseTalk → List Send
sends_of g u = map (send_to u.slave.address) (g u)

flat_none : (a : Address) (g : CourseTalk → List (List ℕ)) (talks : List CourseTalk) → ((j : ℕ) (v : CourseTalk) → slice_get talks j ≡ Some v → same_address v.slave.address a ≡ false) → mine a (flat_map (λ u. map (send_to u.slave.address) (g u)) talks) ≡ []
flat_none a g [] apart = refl
flat_none a g (u ∷ us) apart =
    mine_append a (map (send_to u.slave.address) (g u)) (flat_map (λ u. map (send_to u.slave.address) (g u)) us)
    ∙ ap (λ z. z ++ mine a (flat_map (λ u. map (send_to u.slave.address) (g u)) us)) (mine_none a u.slave.address (g u) (apart 0 u refl))
    ∙ flat_none a g us (λ j v e. apart (suc j) v e)

not_true : (b : Bool) → (b ≡ true → ⊥) → b ≡ false
not_true true h = absurd (h refl)
not_true false h = refl

append_none : (xs : List (List ℕ)) → xs ++ [] ≡ xs
append_none [] = refl
append_none (x ∷ xs) = ap (λ z. x ∷ z) (append_none xs)

pub flat_mine : (a : Address) (g : CourseTalk → List (List ℕ)) (talks : List CourseTalk) (i : ℕ) (u : CourseTalk) → slice_get talks i ≡ Some u
    → ((j : ℕ) (v : CourseTalk) → slice_get talks j ≡ Some v → same_address v.slave.address a ≡ true → j ≡ i) → same_address u.slave.address a ≡ true
    → mine a (flat_map (λ u. map (send_to u.slave.address) (g u)) talks) ≡ g u
flat_mine a g [] i u is apart e = absurd cc
flat_mine a g (v ∷ vs) zero u is apart e =
    let w : v ≡ u = cc in
    let f : same_address v.slave.address a ≡ true = ap (λ (z : CourseTalk). same_address z.slave.address a) w ∙ e in
    mine_append a (map (send_to v.slave.address) (g v)) (flat_map (λ u. map (send_to u.slave.address) (g u)) vs)
    ∙ ap (λ z. z ++ mine a (flat_map (λ u. map (send_to u.slave.address) (g u)) vs)) (mine_all a v.slave.address (g v) f)
    ∙ ap (λ z. g v ++ z) (flat_none a g vs (λ j x q. not_true (same_address x.slave.address a) (λ y. absurd (clash j (apart (suc j) x q y)))))
    ∙ append_none (g v) ∙ ap g w
  where
    clash : (j : ℕ) → suc j ≡ 0 → ⊥
    clash j z = omega (arith, z)
flat_mine a g (v ∷ vs) (suc i) u is apart e =
    mine_append a (map (send_to v.slave.address) (g v)) (flat_map (λ u. map (send_to u.slave.address) (g u)) vs)
    ∙ ap (λ z. z ++ mine a (flat_map (λ u. map (send_to u.slave.address) (g u)) vs)) (mine_none a v.slave.address (g v) (not_true (same_address v.slave.address a) (λ y. clash (apart 0 v refl y))))
    ∙ flat_mine a g vs i u is (λ j x q y. less j (apart (suc j) x q y)) e
  where
    clash : 0 ≡ suc i → ⊥
    clash z = omega (arith, z)

    less : (j : ℕ) → suc j ≡ suc i → j ≡ i
    less j z = omega (arith, z)

pub get_map : {A B : Type 0} → (f : A → B) (xs : List A) (i : ℕ) (x : A) → slice_get xs i ≡ Some x → slice_get (map f xs) i ≡ Some (f x)
get_map f xs i x e = slice_get-map f xs i ∙ ap (option_map f) e
