-- One more line keeps what is known of the links.
use Rattle.std.proofs.Common.{◌≡◌, ℕ, ℤ, ◌<◌, ◌≤◌, Bool, true, false, not, ◌&&◌, ◌||◌, eqb, ltb, get_or, take, ⊎_elim, List, [], ◌∷◌, ◌++◌, map, length, None, refl, sym, ap, ◌∙◌, subst, arith, append-nil, append_assoc, length-append}
use Rattle.std.specs.Prelude.{All, AllPairs}
use Rattle.std.specs.List.{list_any}
use Rattle.std.proofs.str.Laws.{order}
use Rattle.std.proofs.lemmas.Bool.{false≢true, leb-false}
use Rattle.std.proofs.lemmas.Bool.Decides.{nat_tests}
use Rattle.std.proofs.lemmas.List.{map-append, take-append-le, take_all}
use Rattle.std.proofs.lemmas.List.Elements.{All-push, All-nil}
use Rattle.std.proofs.lemmas.List.Folds.{list_any_at, list_any-append}
use Rattle.std.proofs.lemmas.List.Quantifiers.{all_pairs_push}
use Rattle.scenario.specs.declared.net_plans.NetLine.{NetLine}
use Rattle.scenario.specs.declared.net_plans.Chaos.{Chaos}
use Rattle.text_lines.specs.declared.reasons.TextWhy.TheVariants as why
use Rattle.text_lines.specs.Causes.{refused_if}
use Rattle.desc_text.proofs.Held.{not_refused, not_not}
use Rattle.slave_desc.specs.declared.descriptions.SlaveDesc.{SlaveDesc}
use Rattle.scenario.specs.Lookups.{outputs_at, inputs_at, parameters_at, type_at}
use Rattle.scenario.specs.Wiring.{same_input}
use Rattle.scenario_text.specs.Checks.{why_wire, why_change, why_setting, why_rerun, why_every, why_net, why_link}
use Rattle.scenario_text.specs.Said.{parameters_now}
use Rattle.scenario_text.specs.Collecting.{no_links, put_link}
use Rattle.scenario.specs.Settings.{changed_by, changed, setting_in, takes_at}
use Rattle.scenario.specs.Sound.{IsSlave, IsWire, IsSetting, IsRerun, IsEvery, same_pair, IsNetLine, IsChaos, IsPlan, changes, AreTaken}
use Rattle.scenario_text.proofs.LinkRanges.{IsPlaced, IsPair, IsThere}
use Rattle.scenario.specs.declared.scenarios.Wire.{Wire}
use Rattle.scenario.specs.declared.scenarios.Setting.{Setting}
use Rattle.scenario.specs.declared.scenarios.Every.{Every}
use Rattle.scenario.specs.declared.scenarios.Rerun.{Rerun}
use Rattle.scenario_text.specs.declared.link_words.LinkLine.{LinkLine}
use Rattle.scenario_text.specs.declared.link_words.LinkLine.TheVariants as link
use Rattle.scenario_text.specs.declared.collected.Links.{Links}
use Rattle.text_lines.proofs.NumberTests.{equal_numbers}
use Rattle.scenario.proofs.Changes.{changed-append}
use Rattle.scenario_text.proofs.Refusing.{first_none}

-- what is known of links
pub record AreSound (slaves : List SlaveDesc) (runs : ℕ) (links : Links) : Type 0 where
  pub wires : All (λ w. IsWire slaves w) links.wires
  pub one_wire : AllPairs (λ v w. same_input v w ≡ false) links.wires
  pub settings : All (λ x. IsSetting slaves x) links.settings
  pub reruns : All (λ r. IsRerun slaves runs r) links.reruns
  pub in_order : AllPairs (λ q r. q.run ≤ r.run) links.reruns
  pub taken : AreTaken slaves (changes links.settings links.reruns)
  pub every : All (λ e. IsEvery slaves links.wires e) links.every
  pub one_interval : AllPairs (λ e f. same_pair e f ≡ false) links.every
  pub net : IsPlan slaves links.net

-- ---- tests

no_more : (n : ℕ) → ltb 0 n ≡ false → n ≡ 0
no_more n e = grind (arith, nat_tests)

not_later : (m n : ℕ) → ltb m n ≡ false → n ≤ m
not_later m n e = grind (arith, nat_tests)

empty : {X : Type 0} (xs : List X) → ltb 0 (length xs) ≡ false → xs ≡ []
empty [] e = refl
empty (x ∷ xs) e = absurd (omega (arith, no_more (length (x ∷ xs)) e))

-- a test that no element passes
pub none_at : {X : Type 0} (p : X → Bool) (xs : List X) (k : ℕ) (d : X) → list_any p xs ≡ false → k < length xs → p (get_or xs k d) ≡ false
none_at p xs k d none below = by (p (get_or xs k d)) refl
  where
    by : (b : Bool) → p (get_or xs k d) ≡ b → b ≡ false
    by true e = absurd (false≢true (sym none ∙ list_any_at p xs k d below e))
    by false e = refl

-- ---- settings in order

-- a setting of another slave changes nothing
other_slave : (slaves : List SlaveDesc) (x : Setting) (s : ℕ) (ps : List ℤ) (b : Bool) → eqb x.slave s ≡ b → takes_at slaves s ps ≡ true
    → (x.slave ≡ s → takes_at slaves s (changed_by ps s x) ≡ true) → takes_at slaves s (changed_by ps s x) ≡ true
other_slave slaves x s ps true e before here = here (equal_numbers x.slave s e)
other_slave slaves x s ps false e before here = rw e before

module _ (slaves : List SlaveDesc) (xs : List Setting) (x : Setting) where
  all_taken : AreTaken slaves xs → takes_at slaves x.slave (changed_by (changed (parameters_at slaves x.slave) x.slave xs) x.slave x) ≡ true → (s : ℕ) → IsSlave slaves s → takes_at slaves s (changed (parameters_at slaves s) s (xs ++ x ∷ [])) ≡ true
  all_taken taken here s is =
      let before : takes_at slaves s (changed (parameters_at slaves s) s xs) ≡ true = subst (λ (l : List Setting). takes_at slaves s (changed (parameters_at slaves s) s l) ≡ true) (take_all (length xs) xs (omega arith)) (taken (length xs) s is) in
      let now : takes_at slaves s (changed_by (changed (parameters_at slaves s) s xs) s x) ≡ true =
      other_slave slaves x s (changed (parameters_at slaves s) s xs) (eqb x.slave s) refl before (λ e. subst (λ (s : ℕ). takes_at slaves s (changed_by (changed (parameters_at slaves s) s xs) s x) ≡ true) e here) in
      subst (λ (ps : List ℤ). takes_at slaves s ps ≡ true) (sym (changed-append (parameters_at slaves s) s xs (x ∷ []))) now

  one_more_taken : AreTaken slaves xs → takes_at slaves x.slave (changed_by (changed (parameters_at slaves x.slave) x.slave xs) x.slave x) ≡ true → AreTaken slaves (xs ++ x ∷ [])
  one_more_taken taken here n s is =
      ⊎_elim
      (λ past. subst (λ (l : List Setting). takes_at slaves s (changed (parameters_at slaves s) s l) ≡ true) (sym (take_all n (xs ++ x ∷ []) (omega (arith, length-append xs (x ∷ []))))) (all_taken taken here s is))
      (λ within. subst (λ (l : List Setting). takes_at slaves s (changed (parameters_at slaves s) s l) ≡ true) (sym (take-append-le n xs (x ∷ []) within)) (taken n s is))
      (order (length xs) n)

-- ---- each kind of line

module _ (slaves : List SlaveDesc) (runs : ℕ) (links : Links) (h : AreSound slaves runs links) where
  taken_here : (x : Setting) → why_change slaves links x ≡ None → takes_at slaves x.slave (changed_by (changed (parameters_at slaves x.slave) x.slave (changes links.settings links.reruns)) x.slave x) ≡ true
  taken_here x e =
      subst (λ (ps : List ℤ). takes_at slaves x.slave (changed_by ps x.slave x) ≡ true) (sym (changed-append (parameters_at slaves x.slave) x.slave links.settings (map setting_in links.reruns)))
      (not_not (takes_at slaves x.slave (changed_by (parameters_now slaves links x.slave) x.slave x)) (not_refused _ why.Parameters e))

  wire_more : (w : Wire) → IsPlaced slaves w → why_wire slaves links.wires w ≡ None → AreSound slaves runs (put_link links (link.Wire w))
  wire_more w there e =
      let t = first_none (not (eqb (type_at (outputs_at slaves w.from) w.out) (type_at (inputs_at slaves w.to) w.into))) why.TypeMismatch (refused_if (list_any (λ v. same_input v w) links.wires) why.TwoWires) e in
      let types = equal_numbers (type_at (outputs_at slaves w.from) w.out) (type_at (inputs_at slaves w.to) w.into) (not_not _ t.0) in
      let one = not_refused (list_any (λ v. same_input v w) links.wires) why.TwoWires t.1 in
      record {
        wires = All-push (λ w. IsWire slaves w) links.wires w h.wires (record { from = there.from; out = there.out; to = there.to; into = there.into; types = types });
        one_wire = all_pairs_push (λ (v w : Wire). same_input v w ≡ false) links.wires w h.one_wire (λ k d below. none_at (λ (v : Wire). same_input v w) links.wires k d one below);
        settings = h.settings;
        reruns = h.reruns;
        in_order = h.in_order;
        taken = h.taken;
        every = λ k d below. let v = h.every k d below in record {
          from = v.from;
          to = v.to;
          q = v.q;
          wired = list_any-append _ links.wires (w ∷ []) ∙ ap (λ (b : Bool). b || list_any (λ (u : Wire). eqb u.from (get_or links.every k d).from && eqb u.to (get_or links.every k d).to) (w ∷ [])) v.wired;
        };
        one_interval = h.one_interval;
        net = h.net;
      }

  set_more : (x : Setting) → IsSetting slaves x → why_setting slaves links x ≡ None → AreSound slaves runs (put_link links (link.Set x))
  set_more x there e =
      let t = first_none (ltb 0 (length links.reruns)) why.Order (why_change slaves links x) e in
      let none : links.reruns ≡ [] = empty links.reruns t.0 in
      let before : changes links.settings links.reruns ≡ links.settings = ap (λ (l : List Rerun). links.settings ++ map setting_in l) none ∙ append-nil links.settings in
      let after : changes (links.settings ++ x ∷ []) links.reruns ≡ links.settings ++ x ∷ [] = ap (λ (l : List Rerun). (links.settings ++ x ∷ []) ++ map setting_in l) none ∙ append-nil (links.settings ++ x ∷ []) in
      let here = subst (λ (l : List Setting). takes_at slaves x.slave (changed_by (changed (parameters_at slaves x.slave) x.slave l) x.slave x) ≡ true) before (taken_here x t.1) in
      record {
        wires = h.wires;
        one_wire = h.one_wire;
        settings = All-push (λ x. IsSetting slaves x) links.settings x h.settings there;
        reruns = h.reruns;
        in_order = h.in_order;
        taken = subst (AreTaken slaves) (sym after) (one_more_taken slaves links.settings x (subst (AreTaken slaves) before h.taken) here);
        every = h.every;
        one_interval = h.one_interval;
        net = h.net;
      }

  rerun_more : (r : Rerun) → IsRerun slaves runs r → why_rerun slaves links r ≡ None → AreSound slaves runs (put_link links (link.RerunSet r))
  rerun_more r there e =
      let t = first_none (list_any (λ (q : Rerun). ltb r.run q.run) links.reruns) why.Order (why_change slaves links (setting_in r)) e in
      let after : changes links.settings (links.reruns ++ r ∷ []) ≡ changes links.settings links.reruns ++ setting_in r ∷ [] =
      ap (λ (l : List Setting). links.settings ++ l) (map-append setting_in links.reruns (r ∷ [])) ∙ sym (append_assoc links.settings (map setting_in links.reruns) (setting_in r ∷ [])) in
      record {
        wires = h.wires;
        one_wire = h.one_wire;
        settings = h.settings;
        reruns = All-push (λ r. IsRerun slaves runs r) links.reruns r h.reruns there;
        in_order = all_pairs_push (λ (q r : Rerun). q.run ≤ r.run) links.reruns r h.in_order (λ k d below. not_later r.run (get_or links.reruns k d).run (none_at (λ (q : Rerun). ltb r.run q.run) links.reruns k d t.0 below));
        taken = subst (AreTaken slaves) (sym after) (one_more_taken slaves (changes links.settings links.reruns) (setting_in r) h.taken (taken_here (setting_in r) t.1));
        every = h.every;
        one_interval = h.one_interval;
        net = h.net;
      }

  every_more : (x : Every) → IsPair slaves x → why_every links x ≡ None → AreSound slaves runs (put_link links (link.Every x))
  every_more x there e =
      let t = first_none (list_any (λ (f : Every). eqb f.from x.from && eqb f.to x.to) links.every) why.Repeated (refused_if (not (list_any (λ (w : Wire). eqb w.from x.from && eqb w.to x.to) links.wires)) why.NoWire) e in
      let wired = not_not _ (not_refused _ why.NoWire t.1) in
      record {
        wires = h.wires;
        one_wire = h.one_wire;
        settings = h.settings;
        reruns = h.reruns;
        in_order = h.in_order;
        taken = h.taken;
        every = All-push (λ x. IsEvery slaves links.wires x) links.every x h.every (record { from = there.from; to = there.to; q = there.q; wired = wired });
        one_interval = all_pairs_push (λ (e f : Every). same_pair e f ≡ false) links.every x h.one_interval (λ k d below. none_at (λ (f : Every). same_pair f x) links.every k d t.0 below);
        net = h.net;
      }

  net_more : (l : NetLine) → IsNetLine slaves l → why_net links ≡ None → AreSound slaves runs (put_link links (link.Net l))
  net_more l there e = record {
    wires = h.wires;
    one_wire = h.one_wire;
    settings = h.settings;
    reruns = h.reruns;
    in_order = h.in_order;
    taken = h.taken;
    every = h.every;
    one_interval = h.one_interval;
    net = record {
      few = omega (arith, leb-false 64 (length links.net.lines) (not_refused _ why.Limit e), length-append links.net.lines (l ∷ []));
      lines = All-push (λ l. IsNetLine slaves l) links.net.lines l h.net.lines there;
      chaos = h.net.chaos;
    };
  }

  chaos_more : (c : Chaos) → IsChaos c → AreSound slaves runs (put_link links (link.Chaos c))
  chaos_more c there = record {
    wires = h.wires;
    one_wire = h.one_wire;
    settings = h.settings;
    reruns = h.reruns;
    in_order = h.in_order;
    taken = h.taken;
    every = h.every;
    one_interval = h.one_interval;
    net = record { few = h.net.few; lines = h.net.lines; chaos = there };
  }

  pub links_more : (l : LinkLine) → IsThere slaves runs l → why_link slaves links l ≡ None → AreSound slaves runs (put_link links l)
  links_more (link.Wire w) there e = wire_more w there e
  links_more (link.Set x) there e = set_more x there e
  links_more (link.RerunSet r) there e = rerun_more r there e
  links_more (link.Every x) there e = every_more x there e
  links_more (link.Net l) there e = net_more l there e
  links_more (link.Chaos c) there e = chaos_more c there

no_pairs : {X : Type 0} (R : X → X → Type 0) → AllPairs R []
no_pairs R i j d h k = absurd (omega arith)

take_nothing : (n : ℕ) → take n (changes [] []) ≡ []
take_nothing n = take_all n [] (omega arith)

-- no links, where each kind takes the parameters of its description
pub none_sound : (slaves : List SlaveDesc) (runs : ℕ) → ((s : ℕ) → IsSlave slaves s → takes_at slaves s (parameters_at slaves s) ≡ true) → AreSound slaves runs no_links
none_sound slaves runs takes = record {
  wires = All-nil (λ w. IsWire slaves w);
  one_wire = no_pairs (λ v w. same_input v w ≡ false);
  settings = All-nil (λ x. IsSetting slaves x);
  reruns = All-nil (λ r. IsRerun slaves runs r);
  in_order = no_pairs (λ q r. q.run ≤ r.run);
  taken = λ n s is. subst (λ (l : List Setting). takes_at slaves s (changed (parameters_at slaves s) s l) ≡ true) (sym (take_nothing n)) (takes s is);
  every = All-nil (λ e. IsEvery slaves [] e);
  one_interval = no_pairs (λ e f. same_pair e f ≡ false);
  net = record { few = omega arith; lines = All-nil (λ l. IsNetLine slaves l); chaos = tt };
}
