-- Ends to which nothing has come.
use Rattle.std.proofs.Common.{◌≡◌, Bool, true, false, if◌then◌else◌, append_assoc, subst, ℕ, ◌+◌, ◌-◌, ◌≤◌, drop, take, get_or, arith, List, [], ◌∷◌, ◌++◌, length, map, refl, ap, sym, ◌∙◌, Option, None, Some, IfSome}
use Rattle.std.specs.List.{All, AllZip}
use Rattle.std.specs.Option.{option_map}
use Rattle.std.proofs.lemmas.List.{take_all}
use Rattle.std.proofs.lemmas.List.Elements.{All-nil, All-cons}
use Rattle.dcp_ends.specs.Events.{Rules}
use Rattle.rounds.specs.declared.seats.Seat.{Ghosts}
use Rattle.rounds.specs.Told.{IsTold, AllTold}
use Rattle.slave_desc.specs.declared.descriptions.SlaveDesc.{SlaveDesc}
use Rattle.host.specs.declared.hosted.Hosted.{Hosted}
use Rattle.scenario.specs.declared.scenarios.Scenario.{Scenario}
use Rattle.slave_spec.specs.declared.words.SlaveSetup.{SlaveSetup}
use Rattle.master_spec.specs.Rules.{master_rules}
use Rattle.master_spec.specs.Setup.{setup_from}
use Rattle.host.specs.Hosting.{is_hosted, hosted_from, slave_rules, slave_setup}
use Rattle.host.specs.Seats.{IsFresh, IsFirstFresh, Making, master_making, slave_making}

-- the slaves behind the first
rest_is : (x : SlaveDesc) (ds rest : List SlaveDesc) → rest ≡ take (length (x ∷ ds) - 1) (drop 1 (x ∷ ds)) → rest ≡ ds
rest_is x ds rest after = let all : length ds ≤ length (x ∷ ds) - 1 = omega arith in after ∙ take_all (length (x ∷ ds) - 1) ds all

-- what both sorts of ends are made to do and made from
pub master_rules_are : (sc : Scenario) (b : Bool) → option_map (λ m. m.rules) (if b then Some (master_making sc) else None) ≡ (if b then Some (master_rules sc) else None)
master_rules_are sc true = refl
master_rules_are sc false = refl

pub master_made_is : (sc : Scenario) (b : Bool) → option_map (λ m. m.made) (if b then Some (master_making sc) else None) ≡ (if b then Some (setup_from sc) else None)
master_made_is sc true = refl
master_made_is sc false = refl

pub slave_rules_are : (sc : Scenario) (ds : List SlaveDesc) → map (λ m. m.rules) (map (slave_making sc) ds) ≡ map (slave_rules sc) ds
slave_rules_are sc [] = refl
slave_rules_are sc (d ∷ ds) = ap (λ (l : List Rules). slave_rules sc d ∷ l) (slave_rules_are sc ds)

pub slaves_made_are : (sc : Scenario) (ds : List SlaveDesc) → map (λ m. m.made) (map (slave_making sc) ds) ≡ map (slave_setup sc) ds
slaves_made_are sc [] = refl
slaves_made_are sc (d ∷ ds) = ap (λ (l : List SlaveSetup). slave_setup sc d ∷ l) (slaves_made_are sc ds)

module _ {E : Type 0} (seat : Ghosts E) where
  pub fresh_more : (ends : List E) (all : List (Making seat.Made)) (end : E) (making : Making seat.Made) → AllZip (IsFresh seat) ends all → IsFresh seat end making
      → AllZip (IsFresh seat) (ends ++ end ∷ []) (all ++ making ∷ [])
  fresh_more [] [] end making zip one = (one, tt)
  fresh_more [] (r ∷ all) end making zip one = absurd zip
  fresh_more (e ∷ ends) [] end making zip one = absurd zip
  fresh_more (e ∷ ends) (r ∷ all) end making zip one = (zip.0, fresh_more ends all end making zip.1 one)

  pub fresh_rules : (ends : List E) (all : List (Making seat.Made)) → AllZip (IsFresh seat) ends all → map seat.rules ends ≡ map (λ m. m.rules) all
  fresh_rules [] [] zip = refl
  fresh_rules [] (r ∷ all) zip = absurd zip
  fresh_rules (e ∷ ends) [] zip = absurd zip
  fresh_rules (e ∷ ends) (r ∷ all) zip = ap (λ (x : Rules). x ∷ map seat.rules ends) zip.0.rules_are ∙ ap (λ (l : List Rules). r.rules ∷ l) (fresh_rules ends all zip.1)

  pub fresh_made : (ends : List E) (all : List (Making seat.Made)) → AllZip (IsFresh seat) ends all → map seat.made ends ≡ map (λ m. m.made) all
  fresh_made [] [] zip = refl
  fresh_made [] (r ∷ all) zip = absurd zip
  fresh_made (e ∷ ends) [] zip = absurd zip
  fresh_made (e ∷ ends) (r ∷ all) zip = ap (λ (x : seat.Made). x ∷ map seat.made ends) zip.0.made_is ∙ ap (λ (l : List seat.Made). r.made ∷ l) (fresh_made ends all zip.1)

  pub fresh_told : (ends : List E) (all : List (Making seat.Made)) → AllZip (IsFresh seat) ends all → AllTold seat.stands seat.rules ends []
  fresh_told [] [] zip = All-nil (λ end. IsTold seat.stands (seat.rules end) end [])
  fresh_told [] (r ∷ all) zip = absurd zip
  fresh_told (e ∷ ends) [] zip = absurd zip
  fresh_told (e ∷ ends) (r ∷ all) zip =
      All-cons (λ end. IsTold seat.stands (seat.rules end) end []) e ends (record { stands_for = zip.0.nothing; follows = refl }) (fresh_told ends all zip.1)

  pub fresh_quiet : (ends : List E) (all : List (Making seat.Made)) → AllZip (IsFresh seat) ends all → All (λ end. seat.outs end ≡ []) ends
  fresh_quiet [] [] zip = All-nil (λ end. seat.outs end ≡ [])
  fresh_quiet [] (r ∷ all) zip = absurd zip
  fresh_quiet (e ∷ ends) [] zip = absurd zip
  fresh_quiet (e ∷ ends) (r ∷ all) zip = All-cons (λ end. seat.outs end ≡ []) e ends zip.0.quiet (fresh_quiet ends all zip.1)

  pub first_rules : (end : Option E) (making : Option (Making seat.Made)) → IsFirstFresh (IsFresh seat) end making → option_map seat.rules end ≡ option_map (λ m. m.rules) making
  first_rules None None fresh = refl
  first_rules (Some e) (Some r) fresh = ap Some fresh.rules_are
  first_rules None (Some r) fresh = absurd fresh
  first_rules (Some e) None fresh = absurd fresh

  pub first_made : (end : Option E) (making : Option (Making seat.Made)) → IsFirstFresh (IsFresh seat) end making → option_map seat.made end ≡ option_map (λ m. m.made) making
  first_made None None fresh = refl
  first_made (Some e) (Some r) fresh = ap Some fresh.made_is
  first_made None (Some r) fresh = absurd fresh
  first_made (Some e) None fresh = absurd fresh

  pub first_told : (end : Option E) (making : Option (Making seat.Made)) → IsFirstFresh (IsFresh seat) end making → IfSome end (λ e. IsTold seat.stands (seat.rules e) e [])
  first_told None None fresh = tt
  first_told (Some e) (Some r) fresh = record { stands_for = fresh.nothing; follows = refl }
  first_told None (Some r) fresh = absurd fresh
  first_told (Some e) None fresh = absurd fresh

  pub first_quiet : (end : Option E) (making : Option (Making seat.Made)) → IsFirstFresh (IsFresh seat) end making → IfSome end (λ e. seat.outs e ≡ [])
  first_quiet None None fresh = tt
  first_quiet (Some e) (Some r) fresh = fresh.quiet
  first_quiet None (Some r) fresh = absurd fresh
  first_quiet (Some e) None fresh = absurd fresh

  -- one more that is hosted, and then the rest
  pub fresh_with : (f : SlaveDesc → Making seat.Made) (old new final : List E) (end : E) (b : Bool) (d : SlaveDesc) (ds : List SlaveDesc) → b ≡ true → new ≡ old ++ end ∷ [] → IsFresh seat end (f d)
      → ((all : List (Making seat.Made)) → AllZip (IsFresh seat) new all → AllZip (IsFresh seat) final (all ++ map f ds))
      → (all : List (Making seat.Made)) → AllZip (IsFresh seat) old all → AllZip (IsFresh seat) final (all ++ map f (if b then d ∷ ds else ds))
  fresh_with f old new final end false d ds is added one rest all zip = cc
  fresh_with f old new final end true d ds is added one rest all zip =
      let so_far : AllZip (IsFresh seat) new (all ++ f d ∷ []) = subst (λ (l : List E). AllZip (IsFresh seat) l (all ++ f d ∷ [])) (sym added) (fresh_more old all end (f d) zip one) in
      subst (λ (l : List (Making seat.Made)). AllZip (IsFresh seat) final l) (append_assoc all (f d ∷ []) (map f ds)) (rest (all ++ f d ∷ []) so_far)

  -- one that is not, and then the rest
  pub fresh_without : (f : SlaveDesc → Making seat.Made) (old new final : List E) (b : Bool) (d : SlaveDesc) (ds : List SlaveDesc) → b ≡ false → new ≡ old
      → ((all : List (Making seat.Made)) → AllZip (IsFresh seat) new all → AllZip (IsFresh seat) final (all ++ map f ds))
      → (all : List (Making seat.Made)) → AllZip (IsFresh seat) old all → AllZip (IsFresh seat) final (all ++ map f (if b then d ∷ ds else ds))
  fresh_without f old new final true d ds is same rest all zip = cc
  fresh_without f old new final false d ds is same rest all zip = rest all (subst (λ (l : List E). AllZip (IsFresh seat) l all) (sym same) zip)

  module _ (f : SlaveDesc → Making seat.Made) (h : Hosted) (s : ℕ) (old new final : List E) where
    pub first_with : (ds rest : List SlaveDesc) (d : SlaveDesc) → rest ≡ take (length ds - 1) (drop 1 ds) → 1 ≤ length ds → d ≡ get_or ds 0 d → (end : E) → is_hosted h s ≡ true → new ≡ old ++ end ∷ [] → IsFresh seat end (f d)
        → ((all : List (Making seat.Made)) → AllZip (IsFresh seat) new all → AllZip (IsFresh seat) final (all ++ map f (hosted_from h (s + 1) rest)))
        → (all : List (Making seat.Made)) → AllZip (IsFresh seat) old all → AllZip (IsFresh seat) final (all ++ map f (hosted_from h s ds))
    first_with [] rest d after some item end is added one more = absurd (omega arith)
    first_with (x ∷ ds) rest d after some item end is added one more =
        fresh_with f old new final end (is_hosted h s) x (hosted_from h (s + 1) ds) is added (subst (λ (y : SlaveDesc). IsFresh seat end (f y)) item one)
        (subst (λ (l : List SlaveDesc). (all : List (Making seat.Made)) → AllZip (IsFresh seat) new all → AllZip (IsFresh seat) final (all ++ map f (hosted_from h (s + 1) l))) (rest_is x ds rest after) more)

    pub first_without : (ds rest : List SlaveDesc) → rest ≡ take (length ds - 1) (drop 1 ds) → 1 ≤ length ds → is_hosted h s ≡ false → new ≡ old
        → ((all : List (Making seat.Made)) → AllZip (IsFresh seat) new all → AllZip (IsFresh seat) final (all ++ map f (hosted_from h (s + 1) rest)))
        → (all : List (Making seat.Made)) → AllZip (IsFresh seat) old all → AllZip (IsFresh seat) final (all ++ map f (hosted_from h s ds))
    first_without [] rest after some is same more = absurd (omega arith)
    first_without (x ∷ ds) rest after some is same more =
        fresh_without f old new final (is_hosted h s) x (hosted_from h (s + 1) ds) is same
        (subst (λ (l : List SlaveDesc). (all : List (Making seat.Made)) → AllZip (IsFresh seat) new all → AllZip (IsFresh seat) final (all ++ map f (hosted_from h (s + 1) l))) (rest_is x ds rest after) more)
