-- What a line of the links names is there.
use Rattle.std.proofs.Common.{◌≡◌, ℕ, ◌+◌, ◌-◌, ◌*◌, ◌<◌, ◌≤◌, ◌^◌, ◌&&◌, Bool, true, false, cond, ltb, leb, List, [], ◌∷◌, length, Option, Some, None, Ok, Err, refl, subst, arith}
use Rattle.std.specs.List.{position_or_len}
use Rattle.std.specs.Str.{bytes_eq}
use Rattle.scenario.specs.declared.net_plans.NetLine.{NetLine}
use Rattle.scenario.specs.declared.net_plans.NetLine.TheVariants as lines
use Rattle.scenario.specs.declared.net_plans.Chaos.{Chaos}
use Rattle.std.proofs.lemmas.Bool.{leb-true}
use Rattle.std.proofs.lemmas.Bool.Decides.{nat_tests}
use Rattle.text_lines.specs.Causes.{or_why}
use Rattle.text_lines.specs.Numbers.{decimal_number, number_from, int64}
use Rattle.text_lines.specs.Names.{name}
use Rattle.text_lines.specs.Counts.{three_words, four_words}
use Rattle.text_lines.proofs.PlainWords.{and_both}
use Rattle.text_lines.proofs.Results.{bind_ok, some_ok, moved, chosen_ok}
use Rattle.text_lines.proofs.WordRanges.{number_fits}
use Rattle.desc_text.proofs.Ranges.{int64_fits}
use Rattle.text_lines.specs.declared.reasons.TextWhy.TheVariants as why
use Rattle.slave_desc.specs.declared.descriptions.SlaveDesc.{SlaveDesc}
use Rattle.scenario_text.specs.Links.{place_of, number_of_slave, index_of, end_of, hex_value, type_of, wire_of, setting_of, rerun_of, every_of, message_named, drop_of, copy_of, hold_of, chaos_of, link_of}
use Rattle.scenario.specs.Lookups.{outputs_at, inputs_at, parameters_at}
use Rattle.scenario.specs.Sound.{IsSlave, IsSetting, IsRerun, AreMessages, IsNetLine, IsChaos}
use Rattle.scenario.specs.declared.scenarios.Wire.{Wire}
use Rattle.scenario.specs.declared.scenarios.Setting.{Setting}
use Rattle.scenario.specs.declared.scenarios.Every.{Every}
use Rattle.scenario.specs.declared.scenarios.Rerun.{Rerun}
use Rattle.scenario_text.specs.declared.keys.LinkKey.{LinkKey}
use Rattle.scenario_text.specs.declared.keys.LinkKey.TheVariants as keys
use Rattle.scenario_text.specs.declared.link_words.LinkLine.{LinkLine}
use Rattle.scenario_text.specs.declared.link_words.LinkLine.TheVariants as link

found_in : (k n at : ℕ) → cond (ltb k n) (Some k) None ≡ Some at → at < n
found_in k n at e = grind (arith, nat_tests)

slave_fits : (slaves : List SlaveDesc) (w : List ℕ) (s : ℕ) → number_of_slave slaves w ≡ Ok s → IsSlave slaves s
slave_fits slaves w s e =
    let n = bind_ok (name w) _ s e in
    let p = bind_ok (or_why (place_of slaves n.0) why.UnknownSlave) _ s n.2 in
    let below = found_in (position_or_len (λ (d : SlaveDesc). bytes_eq d.name n.0) slaves) (length slaves) p.0 (some_ok (place_of slaves n.0) why.UnknownSlave p.0 p.1) in
    moved (λ (s : ℕ). IsSlave slaves s) (p.0 + 1) s p.2 (omega arith, omega (arith, below))

index_fits : (count : ℕ) (w : List ℕ) (n : ℕ) → index_of count w ≡ Ok n → n < count
index_fits count w n e =
    let t = bind_ok (or_why (decimal_number w) why.BadNumber) (λ n. cond (ltb n count && ltb n 256) (Ok n) (Err why.UnknownPort)) n e in
    let c = chosen_ok (ltb t.0 count && ltb t.0 256) t.0 n why.UnknownPort t.2 in
    let b = and_both (ltb t.0 count) (ltb t.0 256) c.0 in
    subst (λ (n : ℕ). n < count) c.1 (grind (arith, nat_tests))

pub record IsPlaced (slaves : List SlaveDesc) (w : Wire) : Type 0 where
  pub from : IsSlave slaves w.from
  pub out : w.out < length (outputs_at slaves w.from)
  pub to : IsSlave slaves w.to
  pub into : w.into < length (inputs_at slaves w.to)

pub record IsPair (slaves : List SlaveDesc) (e : Every) : Type 0 where
  pub from : IsSlave slaves e.from
  pub to : IsSlave slaves e.to
  pub q : (1 ≤ e.q) × (e.q ≤ 1000)

-- what a line names is there
abbrev pub IsThere : List SlaveDesc → ℕ → LinkLine → Type 0
IsThere slaves runs (link.Wire w) = IsPlaced slaves w
IsThere slaves runs (link.Set x) = IsSetting slaves x
IsThere slaves runs (link.RerunSet r) = IsRerun slaves runs r
IsThere slaves runs (link.Every e) = IsPair slaves e
IsThere slaves runs (link.Net l) = IsNetLine slaves l
IsThere slaves runs (link.Chaos c) = IsChaos c

wire_fits : (slaves : List SlaveDesc) (args : List (List ℕ)) (w : Wire) → wire_of slaves args ≡ Ok w → IsPlaced slaves w
wire_fits slaves args w e =
    let a = bind_ok (four_words args) _ w e in
    let f = bind_ok (number_of_slave slaves a.0.0) _ w a.2 in
    let o = bind_ok (index_of (length (outputs_at slaves f.0)) a.0.1) _ w f.2 in
    let t = bind_ok (number_of_slave slaves a.0.2) _ w o.2 in
    let i = bind_ok (index_of (length (inputs_at slaves t.0)) a.0.3) _ w t.2 in
    moved (IsPlaced slaves) (record { from = f.0; out = o.0; to = t.0; into = i.0 }) w i.2 (record {
      from = slave_fits slaves a.0.0 f.0 f.1;
      out = index_fits (length (outputs_at slaves f.0)) a.0.1 o.0 o.1;
      to = slave_fits slaves a.0.2 t.0 t.1;
      into = index_fits (length (inputs_at slaves t.0)) a.0.3 i.0 i.1;
    })

setting_fits : (slaves : List SlaveDesc) (args : List (List ℕ)) (x : Setting) → setting_of slaves args ≡ Ok x → IsSetting slaves x
setting_fits slaves args x e =
    let a = bind_ok (three_words args) _ x e in
    let s = bind_ok (number_of_slave slaves a.0.0) _ x a.2 in
    let i = bind_ok (index_of (length (parameters_at slaves s.0)) a.0.1) _ x s.2 in
    let v = bind_ok (int64 a.0.2) _ x i.2 in
    moved (IsSetting slaves) (record { slave = s.0; index = i.0; value = v.0 }) x v.2 (record {
      slave = slave_fits slaves a.0.0 s.0 s.1;
      index = index_fits (length (parameters_at slaves s.0)) a.0.1 i.0 i.1;
      value = int64_fits a.0.2 v.0 v.1;
    })

rerun_fits : (slaves : List SlaveDesc) (runs : ℕ) (args : List (List ℕ)) (r : Rerun) → rerun_of slaves runs args ≡ Ok r → IsRerun slaves runs r
rerun_fits slaves runs args r e =
    let a = bind_ok (four_words args) _ r e in
    let n = bind_ok (number_from 2 runs a.0.0) _ r a.2 in
    let s = bind_ok (number_of_slave slaves a.0.1) _ r n.2 in
    let i = bind_ok (index_of (length (parameters_at slaves s.0)) a.0.2) _ r s.2 in
    let v = bind_ok (int64 a.0.3) _ r i.2 in
    moved (IsRerun slaves runs) (record { run = n.0; slave = s.0; index = i.0; value = v.0 }) r v.2 (record {
      setting = record {
        slave = slave_fits slaves a.0.1 s.0 s.1;
        index = index_fits (length (parameters_at slaves s.0)) a.0.2 i.0 i.1;
        value = int64_fits a.0.3 v.0 v.1;
      };
      run = number_fits 2 runs a.0.0 n.0 n.1;
    })

every_fits : (slaves : List SlaveDesc) (args : List (List ℕ)) (x : Every) → every_of slaves args ≡ Ok x → IsPair slaves x
every_fits slaves args x e =
    let a = bind_ok (three_words args) _ x e in
    let f = bind_ok (number_of_slave slaves a.0.0) _ x a.2 in
    let t = bind_ok (number_of_slave slaves a.0.1) _ x f.2 in
    let q = bind_ok (number_from 1 1000 a.0.2) _ x t.2 in
    moved (IsPair slaves) (record { from = f.0; to = t.0; q = q.0 }) x q.2 (record {
      from = slave_fits slaves a.0.0 f.0 f.1;
      to = slave_fits slaves a.0.1 t.0 t.1;
      q = number_fits 1 1000 a.0.2 q.0 q.1;
    })

end_fits : (count : ℕ) (w : List ℕ) (n : ℕ) → end_of count w ≡ Ok n → n ≤ count
end_fits count w n e =
    let t = bind_ok (or_why (decimal_number w) why.BadNumber) (λ n. cond (leb n count) (Ok n) (Err why.UnknownSlave)) n e in
    let c = chosen_ok (leb t.0 count) t.0 n why.UnknownSlave t.2 in
    subst (λ (n : ℕ). n ≤ count) c.1 (leb-true t.0 count c.0)

hex_fits : (b v : ℕ) → hex_value b ≡ Some v → v < 16
hex_fits b v e = picked (leb 48 b && leb b 57) (b - 48) (digit b) _ (picked (leb 65 b && leb b 70) (b - 55) (capital b) _ (picked (leb 97 b && leb b 102) (b - 87) (small b) None (λ n. cc))) e
  where
    picked : (t : Bool) (x : ℕ) → (t ≡ true → x < 16) → (rest : Option ℕ) → (rest ≡ Some v → v < 16) → cond t (Some x) rest ≡ Some v → v < 16
    picked true x h rest later e = let same : x ≡ v = cc in subst (λ (x : ℕ). x < 16) same (h refl)
    picked false x h rest later e = later e

    digit : (b : ℕ) → (leb 48 b && leb b 57) ≡ true → b - 48 < 16
    digit b h = let t = and_both (leb 48 b) (leb b 57) h in omega (arith, leb-true 48 b t.0, leb-true b 57 t.1)

    capital : (b : ℕ) → (leb 65 b && leb b 70) ≡ true → b - 55 < 16
    capital b h = let t = and_both (leb 65 b) (leb b 70) h in omega (arith, leb-true 65 b t.0, leb-true b 70 t.1)

    small : (b : ℕ) → (leb 97 b && leb b 102) ≡ true → b - 87 < 16
    small b h = let t = and_both (leb 97 b) (leb b 102) h in omega (arith, leb-true 97 b t.0, leb-true b 102 t.1)

type_fits : (w : List ℕ) (n : ℕ) → type_of w ≡ Ok n → n < 256
type_fits [] n e = cc
type_fits (a ∷ []) n e = cc
type_fits (a ∷ b ∷ c ∷ more) n e = cc
type_fits (a ∷ b ∷ []) n e =
    let h = bind_ok (or_why (hex_value a) why.BadNumber) _ n e in
    let l = bind_ok (or_why (hex_value b) why.BadNumber) _ n h.2 in
    let high = hex_fits a h.0 (some_ok (hex_value a) why.BadNumber h.0 h.1) in
    let low = hex_fits b l.0 (some_ok (hex_value b) why.BadNumber l.0 l.1) in
    moved (λ (n : ℕ). n < 256) (h.0 * 16 + l.0) n l.2 (omega (arith, high, low))

message_fits : (slaves : List SlaveDesc) (end type_id nth : List ℕ) (m : ℕ × ℕ × ℕ) → message_named (length slaves) end type_id nth ≡ Ok m → AreMessages slaves m.0 m.1 m.2
message_fits slaves end type_id nth m e =
    let d = bind_ok (end_of (length slaves) end) _ m e in
    let t = bind_ok (type_of type_id) _ m d.2 in
    let n = bind_ok (number_from 0 1000000 nth) _ m t.2 in
    moved (λ (m : ℕ × ℕ × ℕ). AreMessages slaves m.0 m.1 m.2) (d.0, t.0, n.0) m n.2 (record { end = end_fits (length slaves) end d.0 d.1; type_id = type_fits type_id t.0 t.1; nth = (number_fits 0 1000000 nth n.0 n.1).1 })

drop_fits : (slaves : List SlaveDesc) (args : List (List ℕ)) (l : NetLine) → drop_of (length slaves) args ≡ Ok l → IsNetLine slaves l
drop_fits slaves args l e =
    let a = bind_ok (three_words args) _ l e in
    let m = bind_ok (message_named (length slaves) a.0.0 a.0.1 a.0.2) _ l a.2 in
    moved (IsNetLine slaves) (lines.Drop m.0.0 m.0.1 m.0.2) l m.2 (message_fits slaves a.0.0 a.0.1 a.0.2 m.0 m.1)

copy_fits : (slaves : List SlaveDesc) (args : List (List ℕ)) (l : NetLine) → copy_of (length slaves) args ≡ Ok l → IsNetLine slaves l
copy_fits slaves args l e =
    let a = bind_ok (four_words args) _ l e in
    let m = bind_ok (message_named (length slaves) a.0.0 a.0.1 a.0.2) _ l a.2 in
    let lag = bind_ok (number_from 1 1000 a.0.3) _ l m.2 in
    moved (IsNetLine slaves) (lines.Copy m.0.0 m.0.1 m.0.2 lag.0) l lag.2 (message_fits slaves a.0.0 a.0.1 a.0.2 m.0 m.1, number_fits 1 1000 a.0.3 lag.0 lag.1)

hold_fits : (slaves : List SlaveDesc) (args : List (List ℕ)) (l : NetLine) → hold_of (length slaves) args ≡ Ok l → IsNetLine slaves l
hold_fits slaves args l e =
    let a = bind_ok (four_words args) _ l e in
    let m = bind_ok (message_named (length slaves) a.0.0 a.0.1 a.0.2) _ l a.2 in
    let lag = bind_ok (number_from 1 1000 a.0.3) _ l m.2 in
    moved (IsNetLine slaves) (lines.Hold m.0.0 m.0.1 m.0.2 lag.0) l lag.2 (message_fits slaves a.0.0 a.0.1 a.0.2 m.0 m.1, number_fits 1 1000 a.0.3 lag.0 lag.1)

chaos_fits : (args : List (List ℕ)) (c : Chaos) → chaos_of args ≡ Ok c → IsChaos c
chaos_fits args c e =
    let a = bind_ok (four_words args) _ c e in
    let s = bind_ok (number_from 0 (2 ^ 64 - 1) a.0.0) _ c a.2 in
    let d = bind_ok (number_from 0 1000 a.0.1) _ c s.2 in
    let r = bind_ok (number_from 0 1000 a.0.2) _ c d.2 in
    let h = bind_ok (number_from 0 1000 a.0.3) _ c r.2 in
    let start = number_fits 0 (2 ^ 64 - 1) a.0.0 s.0 s.1 in
    moved IsChaos (record { start = s.0; drop = d.0; repeat = r.0; hold = h.0 }) c h.2 (record {
      start = omega (arith, start.1);
      drop = (number_fits 0 1000 a.0.1 d.0 d.1).1;
      repeat = (number_fits 0 1000 a.0.2 r.0 r.1).1;
      hold = (number_fits 0 1000 a.0.3 h.0 h.1).1;
    })

pub link_there : (slaves : List SlaveDesc) (runs : ℕ) (key : LinkKey) (args : List (List ℕ)) (l : LinkLine) → link_of slaves runs key args ≡ Ok l → IsThere slaves runs l
link_there slaves runs keys.Wire args l e = let w = bind_ok (wire_of slaves args) _ l e in moved (IsThere slaves runs) (link.Wire w.0) l w.2 (wire_fits slaves args w.0 w.1)
link_there slaves runs keys.Set args l e = let x = bind_ok (setting_of slaves args) _ l e in moved (IsThere slaves runs) (link.Set x.0) l x.2 (setting_fits slaves args x.0 x.1)
link_there slaves runs keys.RerunSet args l e = let r = bind_ok (rerun_of slaves runs args) _ l e in moved (IsThere slaves runs) (link.RerunSet r.0) l r.2 (rerun_fits slaves runs args r.0 r.1)
link_there slaves runs keys.Every args l e = let x = bind_ok (every_of slaves args) _ l e in moved (IsThere slaves runs) (link.Every x.0) l x.2 (every_fits slaves args x.0 x.1)
link_there slaves runs keys.Drop args l e = let x = bind_ok (drop_of (length slaves) args) _ l e in moved (IsThere slaves runs) (link.Net x.0) l x.2 (drop_fits slaves args x.0 x.1)
link_there slaves runs keys.Copy args l e = let x = bind_ok (copy_of (length slaves) args) _ l e in moved (IsThere slaves runs) (link.Net x.0) l x.2 (copy_fits slaves args x.0 x.1)
link_there slaves runs keys.Hold args l e = let x = bind_ok (hold_of (length slaves) args) _ l e in moved (IsThere slaves runs) (link.Net x.0) l x.2 (hold_fits slaves args x.0 x.1)
link_there slaves runs keys.Chaos args l e = let x = bind_ok (chaos_of args) _ l e in moved (IsThere slaves runs) (link.Chaos x.0) l x.2 (chaos_fits args x.0 x.1)
