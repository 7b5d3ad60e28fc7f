-- Which command some words name.
use Rattle.std.proofs.Common.{◌≡◌, ◌⊎◌, inl, inr, ℕ, List, [], ◌∷◌, Some, None, refl, sym, ◌∙◌, subst, codes}
use Rattle.std.specs.Prelude.{◌≢◌}
use Rattle.commands.specs.declared.command_words.Command.{Command}
use Rattle.commands.specs.declared.command_words.Command.TheVariants.{Decode, Encode, Describe, Reference, Talk, Run, Replay, Soak, Conform}
use Rattle.commands.specs.CommandWords.{Names, NamesRun, own_number}

pub one_not_two : (words : List (List ℕ)) (a b c : List ℕ) → words ≡ a ∷ [] → words ≡ b ∷ c ∷ [] → ⊥
one_not_two words a b c one two = off (sym one ∙ two)
  where
    off : a ∷ [] ≡ b ∷ c ∷ [] → ⊥
    off e = cc

-- the words of soak are not those of conform
pub soak_not_conform : (words : List (List ℕ)) (a b : List ℕ) → words ≡ codes "soak" ∷ a ∷ [] → words ≡ codes "conform" ∷ b ∷ [] → ⊥
soak_not_conform words a b soak conforms = off (sym soak ∙ conforms)
  where
    off : codes "soak" ∷ a ∷ [] ≡ codes "conform" ∷ b ∷ [] → ⊥
    off e = absurd cc

-- words that name the scenario of a number name no command that reads
pub names_own : (words : List (List ℕ)) (command : Command) (number : ℕ) → Names words command → Names words (Soak number) → own_number command ≢ None
names_own words Decode number named said = absurd (one_not_two words _ _ said.0 named said.1)
names_own words Encode number named said = absurd (one_not_two words _ _ said.0 named said.1)
names_own words Describe number named said = absurd (one_not_two words _ _ said.0 named said.1)
names_own words Reference number named said = absurd (one_not_two words _ _ said.0 named said.1)
names_own words Talk number named said = absurd (one_not_two words _ _ said.0 named said.1)
names_own words Run number named said = absurd (one_not_two words _ _ said.0 named said.1)
names_own words Replay number named said = absurd (one_not_two words _ _ said.0 named said.1)
names_own words (Conform name) number named said = absurd (soak_not_conform words _ _ said.1 named.0)
names_own words (Soak other) number named said = λ none. off none
  where
    off : Some other ≡ None → ⊥
    off e = cc

own_runs : (words : List (List ℕ)) (command : Command) → Names words command → own_number command ≢ None → NamesRun words
own_runs words Decode named own = absurd (own refl)
own_runs words Encode named own = absurd (own refl)
own_runs words Describe named own = absurd (own refl)
own_runs words Reference named own = absurd (own refl)
own_runs words Talk named own = absurd (own refl)
own_runs words Run named own = absurd (own refl)
own_runs words Replay named own = absurd (own refl)
own_runs words (Soak number) named own = inr (number, named)
own_runs words (Conform name) named own = absurd (own refl)

-- what does not hold of a command that runs a scenario
pub unless_run : {Same : Type 0} → (words : List (List ℕ)) (command : Command) → Names words command → (command ≡ Run) ⊎ ((own_number command ≢ None) ⊎ Same) → NamesRun words ⊎ Same
unless_run words command named (inl run) = let Named : Command → Type 0 = λ c. Names words c in inl (inl (subst Named run named))
unless_run words command named (inr (inl own)) = inl (own_runs words command named own)
unless_run words command named (inr (inr same)) = inr same
