-- What each part of a setup list does to a data id.
use Rattle.std.proofs.Common.{◌≡◌, ℕ, ◌+◌, ◌==◌, Bool, true, false, if◌then◌else◌, ◌⊎◌, inl, inr, List, [], ◌∷◌, ◌++◌, length, Option, Some, None, refl, sym, ap, ◌∙◌, subst}
use Rattle.std.specs.Prelude.{nat_lt}
use Rattle.std.specs.List.{AllByRecursion, cons_option}
use Rattle.std.proofs.lemmas.Bool.{eqb-true}
use Rattle.pdu_layout.specs.declared.messages.Cfg.{Cfg}
use Rattle.pdu_layout.specs.declared.messages.Cfg.TheVariants as cfg
use Rattle.master_spec.specs.declared.links.DataLink.{DataLink}
use Rattle.master_spec.specs.PlanSetup.{numbered, told_interval}
use Rattle.plan_laws.proofs.Lists.{each_append}
use Rattle.slave_spec.specs.Changes.{Change, Set, Side, vr_for, entries, has_id, interval_given, set_or, entry_interval}
use Rattle.slave_laws.specs.Wiring.Wired.{changes_with, changes_after}

pub after_append : (base : List Change) (xs ys : List Cfg) → changes_after base (xs ++ ys) ≡ changes_after (changes_after base xs) ys
after_append base [] ys = refl
after_append base (x ∷ xs) ys = after_append (changes_with x base) xs ys

-- numbered parts, each of which passes a test
pub each_numbered : {A : Type 0} (P : Cfg → Type 0) (f : ℕ → A → List Cfg) (i : ℕ) (xs : List A) → ((j : ℕ) (x : A) → AllByRecursion P (f j x)) → AllByRecursion P (numbered f i xs)
each_numbered P f i [] h = tt
each_numbered P f i (x ∷ xs) h = each_append P (f i x) (numbered f (i + 1) xs) (h i x) (each_numbered P f (i + 1) xs h)

module _ (side : Side) where
  -- it is kept among the changes, sets no interval, and is an entry of one id at most
  pub record IsQuiet (id : ℕ) (body : Cfg) : Type 0 where
    pub kept : (changes : List Change) → changes_with body changes ≡ Set body ∷ changes
    pub unset : (other : ℕ) → interval_given other (Set body) ≡ None
    pub silent : (other : ℕ) → (id == other) ≡ false → vr_for other (side (Set body)) ≡ None

  abbrev pub AreQuiet : ℕ → List Cfg → Type 0
  AreQuiet id bodies = AllByRecursion (IsQuiet id) bodies

  unset_same : (known : Bool) (o : Option ℕ) (before : ℕ) → o ≡ None → set_or known o before ≡ before
  unset_same known None before e = refl
  unset_same known (Some q) before e = absurd cc

  pub quiet_interval : (id other : ℕ) (bodies : List Cfg) (changes : List Change) → AreQuiet id bodies → entry_interval side other (changes_after changes bodies) ≡ entry_interval side other changes
  quiet_interval id other [] changes h = refl
  quiet_interval id other (body ∷ bodies) changes h =
      quiet_interval id other bodies (changes_with body changes) h.1 ∙ ap (entry_interval side other) ((h.0).kept changes)
      ∙ unset_same (has_id side other changes) (interval_given other (Set body)) (entry_interval side other changes) ((h.0).unset other)

  pub quiet_entries : (id other : ℕ) (bodies : List Cfg) (changes : List Change) → (id == other) ≡ false → AreQuiet id bodies → entries side other (changes_after changes bodies) ≡ entries side other changes
  quiet_entries id other [] changes e h = refl
  quiet_entries id other (body ∷ bodies) changes e h =
      quiet_entries id other bodies (changes_with body changes) e h.1 ∙ ap (entries side other) ((h.0).kept changes)
      ∙ ap (λ o. cons_option o (entries side other changes)) ((h.0).silent other e)

  pub quiet_known : (id other : ℕ) (bodies : List Cfg) (changes : List Change) → (id == other) ≡ false → AreQuiet id bodies → has_id side other (changes_after changes bodies) ≡ has_id side other changes
  quiet_known id other bodies changes e h = ap (λ es. nat_lt 0 (length es)) (quiet_entries id other bodies changes e h)

  -- ---- intervals
  module _ (f : ℕ → ℕ) (steps_silent : (other id q : ℕ) → vr_for other (side (Set (cfg.Steps id q))) ≡ None) where
    pub record AreSpaced (changes : List Change) : Type 0 where
      pub each : (id : ℕ) → has_id side id changes ≡ true → entry_interval side id changes ≡ f id
      pub near : (id : ℕ) → (entry_interval side id changes ≡ 1) ⊎ (entry_interval side id changes ≡ f id)

    one_or : (q r : ℕ) → (q ≡ 1) ⊎ (q ≡ r) → r ≡ 1 → q ≡ r
    one_or q r (inl e) z = e ∙ sym z
    one_or q r (inr e) z = e

    -- a part of one id, without its interval where that is 1
    pub quiet_spaced : (id : ℕ) (bodies : List Cfg) (changes : List Change) → AreQuiet id bodies → f id ≡ 1 → AreSpaced changes → AreSpaced (changes_after changes bodies)
    quiet_spaced id bodies changes h one j = record {
      each = λ other k. each other k (id == other) refl;
      near = λ other. near other (j.near other);
    }
      where
        near : (other : ℕ) → (entry_interval side other changes ≡ 1) ⊎ (entry_interval side other changes ≡ f other) → (entry_interval side other (changes_after changes bodies) ≡ 1) ⊎ (entry_interval side other (changes_after changes bodies) ≡ f other)
        near other (inl e) = inl (quiet_interval id other bodies changes h ∙ e)
        near other (inr e) = inr (quiet_interval id other bodies changes h ∙ e)

        each : (other : ℕ) → has_id side other (changes_after changes bodies) ≡ true → (b : Bool) → (id == other) ≡ b → entry_interval side other (changes_after changes bodies) ≡ f other
        each other k true e = quiet_interval id other bodies changes h ∙ one_or (entry_interval side other changes) (f other) (j.near other) (ap f (sym (eqb-true id other e)) ∙ one)
        each other k false e = quiet_interval id other bodies changes h ∙ j.each other (sym (quiet_known id other bodies changes e h) ∙ k)

    set_here : (id other q : ℕ) (changes : List Change) → (id == other) ≡ true → has_id side other changes ≡ true → entry_interval side other (Set (cfg.Steps id q) ∷ changes) ≡ q
    set_here id other q changes e k = ap (λ b. set_or (has_id side other changes) (if b then Some q else None) (entry_interval side other changes)) e ∙ ap (λ b. set_or b (Some q) (entry_interval side other changes)) k

    set_other : (id other q : ℕ) (changes : List Change) → (id == other) ≡ false → entry_interval side other (Set (cfg.Steps id q) ∷ changes) ≡ entry_interval side other changes
    set_other id other q changes e = ap (λ b. set_or (has_id side other changes) (if b then Some q else None) (entry_interval side other changes)) e

    set_unknown : (o : Option ℕ) (known : Bool) (before : ℕ) → known ≡ false → set_or known o before ≡ before
    set_unknown None known before e = refl
    set_unknown (Some q) true before e = absurd cc
    set_unknown (Some q) false before e = refl

    steps_known : (id other q : ℕ) (changes : List Change) → has_id side other (Set (cfg.Steps id q) ∷ changes) ≡ has_id side other changes
    steps_known id other q changes = ap (λ o. nat_lt 0 (length (cons_option o (entries side other changes)))) (steps_silent other id q)

    -- and with it
    spaced_set : (id q : ℕ) (bodies : List Cfg) (changes : List Change) → AreQuiet id bodies → f id ≡ q → AreSpaced changes → AreSpaced (Set (cfg.Steps id q) ∷ changes_after changes bodies)
    spaced_set id q bodies changes h is j = record {
      each = λ other k. each other (sym (steps_known id other q cs) ∙ k) (id == other) refl;
      near = λ other. near other (id == other) refl (has_id side other cs) refl (j.near other);
    }
      where
        cs : List Change
        cs = changes_after changes bodies

        same : (other : ℕ) → entry_interval side other cs ≡ entry_interval side other changes
        same other = quiet_interval id other bodies changes h

        each : (other : ℕ) → has_id side other cs ≡ true → (b : Bool) → (id == other) ≡ b → entry_interval side other (Set (cfg.Steps id q) ∷ cs) ≡ f other
        each other k true e = set_here id other q cs e k ∙ sym is ∙ ap f (eqb-true id other e)
        each other k false e = set_other id other q cs e ∙ same other ∙ j.each other (sym (quiet_known id other bodies changes e h) ∙ k)

        stays : (other : ℕ) → entry_interval side other (Set (cfg.Steps id q) ∷ cs) ≡ entry_interval side other changes → (entry_interval side other changes ≡ 1) ⊎ (entry_interval side other changes ≡ f other) → (entry_interval side other (Set (cfg.Steps id q) ∷ cs) ≡ 1) ⊎ (entry_interval side other (Set (cfg.Steps id q) ∷ cs) ≡ f other)
        stays other g (inl e) = inl (g ∙ e)
        stays other g (inr e) = inr (g ∙ e)

        near : (other : ℕ) (b : Bool) → (id == other) ≡ b → (c : Bool) → has_id side other cs ≡ c → (entry_interval side other changes ≡ 1) ⊎ (entry_interval side other changes ≡ f other) → (entry_interval side other (Set (cfg.Steps id q) ∷ cs) ≡ 1) ⊎ (entry_interval side other (Set (cfg.Steps id q) ∷ cs) ≡ f other)
        near other true e true k n = inr (each other k true e)
        near other true e false k n = stays other (set_unknown (interval_given other (Set (cfg.Steps id q))) (has_id side other cs) (entry_interval side other cs) k ∙ same other) n
        near other false e c k n = stays other (set_other id other q cs e ∙ same other) n

    -- the part of a link
    pub link_spaced : (l : DataLink) (bodies : List Cfg) (changes : List Change) → AreQuiet l.id bodies → f l.id ≡ l.every → AreSpaced changes → AreSpaced (changes_after changes (bodies ++ told_interval l))
    link_spaced l bodies changes h is j = let P : List Change → Type 0 = AreSpaced in subst P (sym (after_append changes bodies (told_interval l))) (by (l.every == 1) refl)
      where
        by : (b : Bool) → (l.every == 1) ≡ b → AreSpaced (changes_after (changes_after changes bodies) (if b then [] else cfg.Steps l.id l.every ∷ []))
        by true e = quiet_spaced l.id bodies changes h (is ∙ eqb-true l.every 1 e) j
        by false e = spaced_set l.id l.every bodies changes h is j
