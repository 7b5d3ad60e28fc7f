-- A whole round, or what there is of one, of its four parts.
use Rattle.std.proofs.Common.{◌≡◌, ◌∙◌, ℕ, ◌+◌, ◌-◌, List, [], ◌++◌, length, take, drop, Option, Ok, Err, refl, sym, ap, arith}
use Rattle.std.proofs.lemmas.List.{append-nil, length-append, take-append-drop}
use Rattle.dcp_types.specs.declared.addresses.Address.{Address}
use Rattle.dcp_ends.specs.declared.entries.LogEntry.{LogEntry}
use Rattle.dcp_net.specs.Nets.{told_more}
use Rattle.rounds.specs.Rounds.{EachEnd}
use Rattle.rounds.proofs.Parts.{told_more-join}
use Rattle.bridge.specs.declared.faults.BridgeFault.{BridgeFault}
use Rattle.bridge.specs.declared.crossings.Crossing.{Crossing}
use Rattle.bridge.specs.declared.passing.Passed.{Passed}
use Rattle.bridge.specs.declared.sides.BridgeSide.{BridgeSide}
use Rattle.bridge.specs.Bridges.{BridgeView, CallsBoth, Crosses, IsPass, WayView, passed_in}
use Rattle.bridge.specs.Passes.{AllSends, TakesAt, came_in, gone_out, left_out, let_in, passed_both, strange_in}
use Rattle.bridge.specs.Steps.{Admits, Forwards, TakesIn}
use Rattle.bridge.proofs.Waiting.{came_in-append, gone_out-append, sends_are_not_strange, sends_take_none, strange_in-append}

-- ---- one direction

-- what the takes and then the sends of a side take is what its takes took
sends_add_none : (living : List Address) (to : BridgeSide) (p q : List LogEntry) → AllSends q → came_in living to (p ++ q) ≡ came_in living to p
sends_add_none living to p q all = came_in-append living to p q ∙ ap (λ (xs : List Crossing). came_in living to p ++ xs) (sends_take_none living to q all) ∙ append-nil (came_in living to p)

module _ {N M : Type 0} (here_calls : N → Option (List LogEntry)) (there_calls : M → Option (List LogEntry)) (F : List LogEntry → Type 0)
    (n₀ n₁ : N) (m₀ m₁ : M) (before gathered now : WayView) (had has : Passed)
    (took : TakesIn here_calls F n₀ n₁ before gathered had has) (sent : Forwards there_calls m₀ m₁ gathered now) where
  -- what was sent on this side, and what was taken on the other, change nothing
  pub crosses : (more other : List LogEntry) → AllSends more → gone_out other ≡ [] → Crosses before now (took.part ++ more) (other ++ sent.part)
  crosses more other sends unsent =
      ap (λ (xs : List Crossing). before.waiting ++ let_in before.waiting xs) (sends_add_none before.living before.to took.part more sends)
      ∙ sym took.admits.waits
      ∙ sent.gone
      ∙ ap (λ (xs : List Crossing). (xs ++ gone_out sent.part) ++ now.waiting) (sym unsent)
      ∙ ap (λ (xs : List Crossing). xs ++ now.waiting) (sym (gone_out-append other sent.part))

passed_is : (p : Passed) (c d s : ℕ) → p.carried ≡ c → p.dropped ≡ d → p.strange ≡ s → p ≡ record { carried = c; dropped = d; strange = s }
passed_is p c d s is_c is_d is_s =
    ap (λ (n : ℕ). let q : Passed = record { carried = n; dropped = p.dropped; strange = p.strange } in q) is_c
    ∙ ap (λ (n : ℕ). let q : Passed = record { carried = c; dropped = n; strange = p.strange } in q) is_d
    ∙ ap (λ (n : ℕ). let q : Passed = record { carried = c; dropped = d; strange = n } in q) is_s

both_none : (none p : Passed) → none ≡ record { carried = 0; dropped = 0; strange = 0 } → passed_both none p ≡ p
both_none none p nothing =
    ap (λ (q : Passed). passed_both q p) nothing ∙ sym (passed_is p _ _ _ (omega arith) (omega arith) (omega arith))

-- the counts of one direction are added to those that there were
pub counts : (part more : List LogEntry) (before now : WayView) (had has : Passed) → Admits part before now had has → AllSends more → has ≡ passed_both had (passed_in before (part ++ more))
counts part more before now had has admits sends =
    let came = came_in before.living before.to part in
    let all : came_in before.living before.to (part ++ more) ≡ came = sends_add_none before.living before.to part more sends in
    let waits : length now.waiting ≡ length before.waiting + length (let_in before.waiting came) = ap length admits.waits ∙ length-append before.waiting (let_in before.waiting came) in
    let split : length (let_in before.waiting came) + length (left_out before.waiting came) ≡ length came = sides (256 - length before.waiting) came in
    let in_all : length (let_in before.waiting (came_in before.living before.to (part ++ more))) ≡ length (let_in before.waiting came) = ap (λ (xs : List Crossing). length (let_in before.waiting xs)) all in
    let out_all : length (left_out before.waiting (came_in before.living before.to (part ++ more))) ≡ length (left_out before.waiting came) = ap (λ (xs : List Crossing). length (left_out before.waiting xs)) all in
    let odd : strange_in before.living (part ++ more) ≡ strange_in before.living part + strange_in before.living more = strange_in-append before.living part more in
    let none : strange_in before.living more ≡ 0 = sends_are_not_strange before.living more sends in
    passed_is has _ _ _
    (omega (arith, admits.kept))
    (omega (arith, admits.kept, admits.came))
    (omega (arith, admits.strange))
  where
    sides : (k : ℕ) (xs : List Crossing) → length (take k xs) + length (drop k xs) ≡ length xs
    sides k xs = sym (length-append (take k xs) (drop k xs)) ∙ ap length (take-append-drop k xs)

-- ---- both directions

module _ {U T : Type 0} (udp_calls : U → Option (List LogEntry)) (tcp_calls : T → Option (List LogEntry)) (F G : List LogEntry → Type 0)
    (u₀ u₁ u₂ : U) (t₀ t₁ t₂ : T) (before now : BridgeView) (to_tcp to_udp : WayView) (none first passed : Passed)
    (on_udp : TakesIn udp_calls F u₀ u₁ before.to_tcp to_tcp none first) (on_tcp : TakesIn tcp_calls G t₀ t₁ before.to_udp to_udp first passed)
    (to_tcp_sent : Forwards tcp_calls t₁ t₂ to_tcp now.to_tcp) (to_udp_sent : Forwards udp_calls u₁ u₂ to_udp now.to_udp) where
  told_udp : udp_calls u₂ ≡ told_more (udp_calls u₀) (on_udp.part ++ to_udp_sent.part)
  told_udp = to_udp_sent.told ∙ ap (λ t. told_more t to_udp_sent.part) on_udp.told ∙ told_more-join (udp_calls u₀) on_udp.part to_udp_sent.part

  told_tcp : tcp_calls t₂ ≡ told_more (tcp_calls t₀) (on_tcp.part ++ to_tcp_sent.part)
  told_tcp = to_tcp_sent.told ∙ ap (λ t. told_more t to_tcp_sent.part) on_tcp.told ∙ told_more-join (tcp_calls t₀) on_tcp.part to_tcp_sent.part

  crosses_to_tcp : Crosses before.to_tcp now.to_tcp (on_udp.part ++ to_udp_sent.part) (on_tcp.part ++ to_tcp_sent.part)
  crosses_to_tcp = crosses udp_calls tcp_calls F u₀ u₁ t₁ t₂ before.to_tcp to_tcp now.to_tcp none first on_udp to_tcp_sent to_udp_sent.part on_tcp.part to_udp_sent.sends on_tcp.unsent

  crosses_to_udp : Crosses before.to_udp now.to_udp (on_tcp.part ++ to_tcp_sent.part) (on_udp.part ++ to_udp_sent.part)
  crosses_to_udp = crosses tcp_calls udp_calls G t₀ t₁ u₁ u₂ before.to_udp to_udp now.to_udp first passed on_tcp to_udp_sent to_tcp_sent.part on_udp.part to_tcp_sent.sends on_udp.unsent

  pub passes_stopped : (fault : BridgeFault) → CallsBoth udp_calls tcp_calls (IsPass before now (Err fault)) u₀ u₂ t₀ t₂
  passes_stopped fault = record {
    on_udp = on_udp.part ++ to_udp_sent.part;
    on_tcp = on_tcp.part ++ to_tcp_sent.part;
    told_udp = told_udp;
    told_tcp = told_tcp;
    form = record { to_tcp = crosses_to_tcp; to_udp = crosses_to_udp; whole = tt };
  }

  pub passes_whole : ((p : List LogEntry) → F p → EachEnd TakesAt before.udp.ends p) → ((p : List LogEntry) → G p → EachEnd TakesAt before.tcp.ends p)
      → none ≡ record { carried = 0; dropped = 0; strange = 0 } → now.to_tcp.waiting ≡ [] → now.to_udp.waiting ≡ []
      → CallsBoth udp_calls tcp_calls (IsPass before now (Ok passed)) u₀ u₂ t₀ t₂
  passes_whole udp_form tcp_form nothing none_to_tcp none_to_udp = record {
    on_udp = on_udp.part ++ to_udp_sent.part;
    on_tcp = on_tcp.part ++ to_tcp_sent.part;
    told_udp = told_udp;
    told_tcp = told_tcp;
    form = record {
      to_tcp = crosses_to_tcp;
      to_udp = crosses_to_udp;
      whole = record {
        none_to_tcp = none_to_tcp;
        none_to_udp = none_to_udp;
        udp = record { takes = on_udp.part; sends = to_udp_sent.part; form = refl; taken = udp_form on_udp.part on_udp.form; sent = to_udp_sent.sends };
        tcp = record { takes = on_tcp.part; sends = to_tcp_sent.part; form = refl; taken = tcp_form on_tcp.part on_tcp.form; sent = to_tcp_sent.sends };
        counts =
            counts on_tcp.part to_tcp_sent.part before.to_udp to_udp first passed on_tcp.admits to_tcp_sent.sends
            ∙ ap (λ (p : Passed). passed_both p (passed_in before.to_udp (on_tcp.part ++ to_tcp_sent.part)))
            (counts on_udp.part to_udp_sent.part before.to_tcp to_tcp none first on_udp.admits to_udp_sent.sends ∙ both_none none (passed_in before.to_tcp (on_udp.part ++ to_udp_sent.part)) nothing);
      };
    };
  }
