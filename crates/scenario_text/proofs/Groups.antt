-- Blocks, as lines come, and the slaves that they describe.
use Rattle.std.proofs.Common.{◌≡◌, ℕ, ℤ, Bool, true, false, cond, List, [], ◌∷◌, ◌++◌, refl, sym, ap, ◌∙◌}
use Rattle.std.specs.List.{filter_map}
use Rattle.fixed_models.specs.declared.kinds.Kind.{Kind}
use Rattle.fixed_models.specs.declared.kinds.Kind.TheVariants.{Const}
use Rattle.desc_text.specs.Said.{busy_in, heartbeat_in, resolution_in, items_in}
use Rattle.desc_text.specs.Reads.{Describes, IsOr}
use Rattle.desc_text.specs.declared.items.Item.{Item}
use Rattle.slave_desc.specs.declared.descriptions.SlaveDesc.{SlaveDesc}
pub use Rattle.scenario_text.specs.Grammar.{AreSlaveBlocks}
use Rattle.scenario_text.specs.Said.{begins_block, opens, onto, group, last_of, front_of, first_or, slave_said, slaves_of_blocks}

-- a line at the end of the last block
abbrev pub at_last : List (List (List ℕ)) → List ℕ → List (List (List ℕ))
at_last [] e = (e ∷ []) ∷ []
at_last (g ∷ []) e = (g ++ e ∷ []) ∷ []
at_last (g ∷ h ∷ gs) e = g ∷ at_last (h ∷ gs) e

onto_new : (x e : List ℕ) (gs : List (List (List ℕ))) → begins_block e ≡ true → onto x (gs ++ (e ∷ []) ∷ []) ≡ onto x gs ++ (e ∷ []) ∷ []
onto_new x e [] begins = ap (λ b. cond b ((x ∷ []) ∷ (e ∷ []) ∷ []) ((x ∷ e ∷ []) ∷ [])) begins
onto_new x e (g ∷ gs) begins = by (opens g)
  where
    by : (b : Bool) → cond b ((x ∷ []) ∷ g ∷ (gs ++ (e ∷ []) ∷ [])) ((x ∷ g) ∷ (gs ++ (e ∷ []) ∷ [])) ≡ cond b ((x ∷ []) ∷ g ∷ gs) ((x ∷ g) ∷ gs) ++ (e ∷ []) ∷ []
    by true = refl
    by false = refl

-- a slave line begins a block
pub group_new : (es : List (List ℕ)) (e : List ℕ) → begins_block e ≡ true → group (es ++ e ∷ []) ≡ group es ++ (e ∷ []) ∷ []
group_new [] e begins = refl
group_new (x ∷ es) e begins = ap (onto x) (group_new es e begins) ∙ onto_new x e (group es) begins

opens_same : (g : List (List ℕ)) (e : List ℕ) → begins_block e ≡ false → opens (g ++ e ∷ []) ≡ opens g
opens_same [] e other = other
opens_same (x ∷ g) e other = refl

onto_last : (x e : List ℕ) (gs : List (List (List ℕ))) → begins_block e ≡ false → onto x (at_last gs e) ≡ at_last (onto x gs) e
onto_last x e [] other = ap (λ b. cond b ((x ∷ []) ∷ (e ∷ []) ∷ []) ((x ∷ e ∷ []) ∷ [])) other
onto_last x e (g ∷ []) other = ap (λ b. cond b ((x ∷ []) ∷ (g ++ e ∷ []) ∷ []) ((x ∷ (g ++ e ∷ [])) ∷ [])) (opens_same g e other) ∙ by (opens g)
  where
    by : (b : Bool) → cond b ((x ∷ []) ∷ (g ++ e ∷ []) ∷ []) ((x ∷ (g ++ e ∷ [])) ∷ []) ≡ at_last (cond b ((x ∷ []) ∷ g ∷ []) ((x ∷ g) ∷ [])) e
    by true = refl
    by false = refl
onto_last x e (g ∷ h ∷ gs) other = by (opens g)
  where
    by : (b : Bool) → cond b ((x ∷ []) ∷ g ∷ at_last (h ∷ gs) e) ((x ∷ g) ∷ at_last (h ∷ gs) e) ≡ at_last (cond b ((x ∷ []) ∷ g ∷ h ∷ gs) ((x ∷ g) ∷ h ∷ gs)) e
    by true = refl
    by false = refl

-- another line joins the last
pub group_more : (es : List (List ℕ)) (e : List ℕ) → begins_block e ≡ false → group (es ++ e ∷ []) ≡ at_last (group es) e
group_more [] e other = refl
group_more (x ∷ es) e other = ap (onto x) (group_more es e other) ∙ onto_last x e (group es) other

pub at_last_is : (gs : List (List (List ℕ))) (g : List (List ℕ)) (e : List ℕ) → at_last (gs ++ g ∷ []) e ≡ gs ++ (g ++ e ∷ []) ∷ []
at_last_is [] g e = refl
at_last_is (h ∷ []) g e = refl
at_last_is (h ∷ i ∷ gs) g e = ap (λ l. h ∷ l) (at_last_is (i ∷ gs) g e)

pub last_is : (gs : List (List (List ℕ))) (g : List (List ℕ)) → last_of (gs ++ g ∷ []) ≡ g
last_is [] g = refl
last_is (h ∷ []) g = refl
last_is (h ∷ i ∷ gs) g = last_is (i ∷ gs) g

pub front_is : (gs : List (List (List ℕ))) (g : List (List ℕ)) → front_of (gs ++ g ∷ []) ≡ gs
front_is [] g = refl
front_is (h ∷ []) g = refl
front_is (h ∷ i ∷ gs) g = ap (λ l. h ∷ l) (front_is (i ∷ gs) g)

-- ---- the slaves of blocks

pub slaves_more : (gs : List (List (List ℕ))) (ds : List SlaveDesc) (g : List (List ℕ)) (d : SlaveDesc) → AreSlaveBlocks gs ds → Describes (items_in g) d → AreSlaveBlocks (gs ++ g ∷ []) (ds ++ d ∷ [])
slaves_more [] [] g d h k = (k, tt)
slaves_more [] (e ∷ ds) g d h k = absurd h
slaves_more (f ∷ gs) [] g d h k = absurd h
slaves_more (f ∷ gs) (e ∷ ds) g d h k = (h.0, slaves_more gs ds g d h.1 k)

or_first : {X : Type 0} (d : X) (xs : List X) (x : X) → IsOr d xs x → first_or d xs ≡ x
or_first d [] x e = sym e
or_first d (y ∷ []) x e = sym e
or_first d (y ∷ z ∷ more) x e = absurd e

one_said : (all : List Item) (d : SlaveDesc) → Describes all d → slave_said all ≡ d
one_said all d says =
    let resolution = or_first {X = ℕ × ℕ} (1, 1000) (filter_map resolution_in all) (d.numerator, d.denominator) says.resolution in
    λ i. record {
      name = ap (first_or []) says.name i;
      uuid = ap (first_or 0) says.uuid i;
      address = ap (first_or (record { ip = 0; port = 0 })) says.address i;
      kind = ap (λ (xs : List (Kind × List ℤ)). (first_or (Const, []) xs).0) says.model i;
      parameters = ap (λ (xs : List (Kind × List ℤ)). (first_or (Const, []) xs).1) says.model i;
      busy = or_first 0 (filter_map busy_in all) d.busy says.busy i;
      heartbeat = or_first 0 (filter_map heartbeat_in all) d.heartbeat says.heartbeat i;
      numerator = (resolution i).0;
      denominator = (resolution i).1;
      inputs = says.inputs i;
      outputs = says.outputs i;
    }

pub all_said : (gs : List (List (List ℕ))) (ds : List SlaveDesc) → AreSlaveBlocks gs ds → slaves_of_blocks gs ≡ ds
all_said [] [] h = refl
all_said [] (d ∷ ds) h = absurd h
all_said (g ∷ gs) [] h = absurd h
all_said (g ∷ gs) (d ∷ ds) h = ap (λ (e : SlaveDesc). e ∷ slaves_of_blocks gs) (one_said (items_in g) d h.0) ∙ ap (λ (l : List SlaveDesc). d ∷ l) (all_said gs ds h.1)
