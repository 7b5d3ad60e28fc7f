-- The rounds of a bridge that stands, one after another.
use Rattle.std.proofs.Common.{◌≡◌, ◌∙◌, ℕ, ◌+◌, ◌<◌, ◌≤◌, List, [], ◌∷◌, ◌++◌, length, get_or, Option, None, Some, refl, sym, ap, arith, add-one, zero, suc, IfSome}
use Rattle.std.specs.Prelude.{MatchOption, Result, ⊤, is_some, true}
use Rattle.dcp_ends.specs.declared.entries.LogEntry.{LogEntry}
use Rattle.dcp_net.specs.declared.waits.Waited.TheVariants as waited
use Rattle.dcp_net.specs.Nets.{told_more}
use Rattle.dcp_net.specs.Waits.{TellsWaits}
use Rattle.rounds.proofs.Parts.{told_more-join, told_more-nil}
use Rattle.bridge.specs.declared.faults.BridgeFault.{BridgeFault}
use Rattle.bridge.specs.declared.passing.Passed.{Passed}
use Rattle.bridge.specs.Bridges.{BridgeView, CallsBoth, IsPass, IsSameBut, stopped_by_fault}
use Rattle.socket_commands.specs.Bridge.Standing.{BridgeRounds, CountsReady, StoodOn}

-- ---- waits

pub none_ready : (before : Option ℕ) → CountsReady before before 0
none_ready None = tt
none_ready (Some n) = omega arith

pub one_ready : (before now then : Option ℕ) (n : ℕ) → CountsReady before now n → TellsWaits now then waited.Ready → CountsReady before then (n + 1)
one_ready before now None n counts told = tt
one_ready before None (Some then) n counts told = absurd told
one_ready None (Some now) (Some then) n counts told = absurd counts
one_ready (Some before) (Some now) (Some then) n counts told = omega (arith, counts, told)

pub no_more_ready : (before now then : Option ℕ) (n : ℕ) → CountsReady before now n → TellsWaits now then waited.Failed → CountsReady before then n
no_more_ready before now None n counts told = tt
no_more_ready before None (Some then) n counts told = absurd told
no_more_ready None (Some now) (Some then) n counts told = absurd counts
no_more_ready (Some before) (Some now) (Some then) n counts told = omega (arith, counts, told)

-- ---- rounds

module _ {U T : Type 0} (udp_calls : U → Option (List LogEntry)) (tcp_calls : T → Option (List LogEntry)) where
  pub stood_none : (waits : Option ℕ) (bridge : BridgeView) (udp : U) (tcp : T) → StoodOn udp_calls tcp_calls waits waits bridge bridge udp udp tcp tcp
  stood_none waits bridge udp tcp = record {
    count = 0;
    rounds = record { on_udp = []; on_tcp = []; told_udp = sym (told_more-nil (udp_calls udp)); told_tcp = sym (told_more-nil (tcp_calls tcp)); form = (refl, refl, refl) };
    waited = none_ready waits;
  }

  module _ (w₀ w₁ w₂ : Option ℕ) (first between : BridgeView) (u₀ u₁ : U) (t₀ t₁ : T) (stood : StoodOn udp_calls tcp_calls w₀ w₁ first between u₀ u₁ t₀ t₁) where
    pub stood_until : TellsWaits w₁ w₂ waited.Failed → StoodOn udp_calls tcp_calls w₀ w₂ first between u₀ u₁ t₀ t₁
    stood_until told = record { count = stood.count; rounds = stood.rounds; waited = no_more_ready w₀ w₁ w₂ stood.count stood.waited told }

    pub stood_more : (now : BridgeView) (u₂ : U) (t₂ : T) (result : Result Passed BridgeFault) → TellsWaits w₁ w₂ waited.Ready → between.fault ≡ None
        → CallsBoth udp_calls tcp_calls (IsPass between now result) u₁ u₂ t₁ t₂ → IsSameBut (stopped_by_fault result) between now
        → StoodOn udp_calls tcp_calls w₀ w₂ first now u₀ u₂ t₀ t₂
    stood_more now u₂ t₂ result told unfaulted round same = record {
      count = stood.count + 1;
      rounds = record {
        on_udp = stood.rounds.on_udp ++ round.on_udp;
        on_tcp = stood.rounds.on_tcp ++ round.on_tcp;
        told_udp = round.told_udp ∙ ap (λ t. told_more t round.on_udp) stood.rounds.told_udp ∙ told_more-join (udp_calls u₀) stood.rounds.on_udp round.on_udp;
        told_tcp = round.told_tcp ∙ ap (λ t. told_more t round.on_tcp) stood.rounds.told_tcp ∙ told_more-join (tcp_calls t₀) stood.rounds.on_tcp round.on_tcp;
        form = rw add-one (record {
          between = between;
          udp_before = stood.rounds.on_udp;
          tcp_before = stood.rounds.on_tcp;
          before = stood.rounds.form;
          unfaulted = unfaulted;
          udp_round = round.on_udp;
          tcp_round = round.on_tcp;
          result = result;
          pass = round.form;
          same = same;
          udp_form = refl;
          tcp_form = refl;
        });
      };
      waited = one_ready w₀ w₁ w₂ stood.count stood.waited told;
    }

-- ---- what is told

-- what was told from nothing on is what was added
pub told_since : (before now : Option (List LogEntry)) (part : List LogEntry) → MatchOption before ⊤ (λ calls. calls ≡ []) → now ≡ told_more before part → IfSome now (λ calls. calls ≡ part)
told_since None now part none told = rw told tt
told_since (Some calls) now part none told = rw (told, none) refl

pub opened_still : {A : Type 0} (before now : Option A) (as_opened : A) → MatchOption before ⊤ (λ opening. opening ≡ as_opened) → now ≡ before → IfSome now (λ opening. opening ≡ as_opened)
opened_still None now as_opened was same = rw same tt
opened_still (Some opening) now as_opened was same = rw same was

-- ---- names

pub some_named : (Names : ℕ → Type 0) (o : Option ℕ) → MatchOption o (((n : ℕ) × Names n) → ⊥) Names → is_some o ≡ true → (n : ℕ) × Names n
some_named Names (Some n) named some = (n, named)
some_named Names None named some = absurd cc

pub pair_is : {A : Type 0} (xs : List A) (a b : A) → 2 ≤ length xs → length xs < 3 → a ≡ get_or xs 0 a → b ≡ get_or xs 1 b → xs ≡ a ∷ b ∷ []
pair_is [] a b most least is_a is_b = absurd (omega arith)
pair_is (x ∷ []) a b most least is_a is_b = absurd (omega arith)
pair_is (x ∷ y ∷ []) a b most least is_a is_b = ap (λ (z : _). z ∷ y ∷ []) (sym is_a) ∙ ap (λ (z : _). a ∷ z ∷ []) (sym is_b)
pair_is (x ∷ y ∷ z ∷ xs) a b most least is_a is_b = absurd (omega arith)
