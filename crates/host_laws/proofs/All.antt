-- Each slave that a scenario can have is among all ends.
use Rattle.std.proofs.Common.{◌≡◌, ℕ, zero, suc, ◌-◌, ◌<◌, true, IfOk, Result, Ok, Err, None, [], refl, sym, subst, arith}
use Rattle.std.specs.Prelude.{◌==◌, ◌/◌, ◌%◌, ◌^◌}
use Rattle.scenario.specs.declared.scenarios.Scenario.{Scenario}
use Rattle.scenario.specs.Sound.{IsScenario}
use Rattle.host.specs.declared.hosted.Hosted.{Hosted}
use Rattle.host.specs.Views.{HostView}
use Rattle.host_laws.specs.Lockstep.{HostsAll}
use Rattle.host.specs.Hosting.{all_ends}

bit : (n : ℕ) → n < 16 → ((65535 / 2 ^ n) % 2 == 1) ≡ true
bit zero few = refl
bit (suc zero) few = refl
bit (suc (suc zero)) few = refl
bit (suc (suc (suc zero))) few = refl
bit (suc (suc (suc (suc zero)))) few = refl
bit (suc (suc (suc (suc (suc zero))))) few = refl
bit (suc (suc (suc (suc (suc (suc zero)))))) few = refl
bit (suc (suc (suc (suc (suc (suc (suc zero))))))) few = refl
bit (suc (suc (suc (suc (suc (suc (suc (suc zero)))))))) few = refl
bit (suc (suc (suc (suc (suc (suc (suc (suc (suc zero))))))))) few = refl
bit (suc (suc (suc (suc (suc (suc (suc (suc (suc (suc zero)))))))))) few = refl
bit (suc (suc (suc (suc (suc (suc (suc (suc (suc (suc (suc zero))))))))))) few = refl
bit (suc (suc (suc (suc (suc (suc (suc (suc (suc (suc (suc (suc zero)))))))))))) few = refl
bit (suc (suc (suc (suc (suc (suc (suc (suc (suc (suc (suc (suc (suc zero))))))))))))) few = refl
bit (suc (suc (suc (suc (suc (suc (suc (suc (suc (suc (suc (suc (suc (suc zero)))))))))))))) few = refl
bit (suc (suc (suc (suc (suc (suc (suc (suc (suc (suc (suc (suc (suc (suc (suc zero))))))))))))))) few = refl
bit (suc (suc (suc (suc (suc (suc (suc (suc (suc (suc (suc (suc (suc (suc (suc (suc n)))))))))))))))) few = absurd (omega (arith, few))

pub all_hosted : (host : HostView) → IsScenario host.scenario → host.hosted ≡ all_ends → HostsAll host
all_hosted host sound hosted = record {
  sound = sound;
  master = (let P : Hosted → Type 0 = λ h. h.master ≡ true in subst P (sym hosted) refl);
  slaves = λ s is. (let P : Hosted → Type 0 = λ h. ((h.slaves / 2 ^ (s - 1)) % 2 == 1) ≡ true in subst P (sym hosted) (bit (s - 1) (omega (arith, is.0, is.1, sound.few_slaves.1))));
}

-- a host of all ends that was made has them
pub hosts_all : {E : Type 0} (sc : Scenario) → IsScenario sc → (result : Result HostView E) → IfOk result (λ host. host ≡ record { scenario = sc; hosted = all_ends; log = []; fault = None }) → IfOk result HostsAll
hosts_all sc sound (Ok host) same =
    let P : HostView → Type 0 = HostsAll in
    subst P (sym same) (all_hosted (record { scenario = sc; hosted = all_ends; log = []; fault = None }) sound refl)
hosts_all sc sound (Err e) same = tt
