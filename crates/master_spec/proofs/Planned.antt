-- The lists of a plan can be asked.
use Rattle.std.proofs.Common.{◌≡◌, ℕ, zero, suc, ◌+◌, ◌-◌, ◌^◌, ◌<◌, ◌≤◌, ◌==◌, ◌&&◌, Bool, true, false, Option, Some, None, List, [], ◌∷◌, ◌++◌, map, filter, length, refl, sym, ap, subst, ◌∙◌, arith, IsTrue, FitsSigned}
use Rattle.std.specs.Prelude.{ℤ, pos, negsuc, All, slice_get, slice_index_or, if◌then◌else◌}
use Rattle.std.specs.List.{AllByRecursion, flat_map, range_with_len, find}
use mathlib.Core.Bool.{cond}
use Rattle.std.specs.Int.{w64}
use Rattle.std.proofs.lemmas.List.Elements.{recursion_from_All}
use Rattle.std.proofs.lemmas.Bool.{eqb-true}
use Rattle.fixed_models.specs.declared.kinds.Kind.{Kind}
use Rattle.fixed_models.specs.declared.kinds.Kind.TheVariants as kinds
use Rattle.fixed_models.specs.Kinds.{takes}
use Rattle.std.proofs.lemmas.Bool.Decides.{nat_tests}
use Rattle.std.proofs.lemmas.Int.{ints}
use Rattle.dcp_types.specs.Codes.{protocol_code}
use Rattle.dcp_types.specs.declared.addresses.Address.{Address}
use Rattle.dcp_types.specs.declared.protocols.Protocol.{Protocol}
use Rattle.dcp_types.specs.declared.protocols.Protocol.TheVariants.{Udp, Tcp}
use Rattle.dcp_types.specs.declared.data_types.DataType.TheVariants as types
use Rattle.dcp_types.specs.Values.{fits}
use Rattle.pdu_layout.specs.declared.messages.Cfg.{Cfg}
use Rattle.pdu_layout.specs.declared.messages.Cfg.TheVariants as cfg
use Rattle.slave_desc.specs.declared.ports.Port.{Port}
use Rattle.slave_desc.specs.declared.descriptions.SlaveDesc.{SlaveDesc}
use Rattle.slave_desc.specs.Descriptions.{IsDesc}
use Rattle.scenario.specs.declared.scenarios.Setting.{Setting}
use Rattle.scenario.specs.declared.scenarios.Rerun.{Rerun}
use Rattle.scenario.specs.declared.scenarios.Every.{Every}
use Rattle.scenario.specs.declared.scenarios.Scenario.{Scenario}
use Rattle.scenario.specs.Settings.{setting_in}
use Rattle.scenario.specs.Lookups.{slave_at, parameters_in}
use Rattle.scenario.specs.Sound.{IsScenario, IsAddress, IsEvery, IsSetting}
use Rattle.scenario.specs.Wiring.{interval, q_of, every_between}
use Rattle.master_spec.specs.declared.links.DataLink.{DataLink}
use Rattle.master_spec.specs.declared.pairs.Pair.{Pair}
use Rattle.master_spec.specs.Links.{is_wire, is_wired_pair, pairs_from, positions, wire_links, links_from, wired_pairs, wire_link}
use Rattle.master_spec.specs.PlanSetup.{settings_of, set_parameter, told_interval, numbered, input_at, output_at, incoming, outgoing, watched, setup_list, adjust_list, net_info, address_at, source_address}
use Rattle.master_spec.proofs.More.{filter_few, grid_few, pairs_few}
use Rattle.master_spec.specs.declared.requests.Request.TheVariants.{Configure}
use Rattle.master_spec.specs.declared.setups.Slave.{Slave}
use Rattle.master_spec.specs.Setup.{slave_of, slaves_from, script_of}
use Rattle.master_spec.specs.Askable.{IsAskable, AreAskable, IsScriptAskable}
use Rattle.master_spec.proofs.Spelled.{clear, time_res, steps, input, output, target, source, parameter, IsNetInfo}

-- ---- lists of configurations

join : (xs ys : List Cfg) → AreAskable xs → AreAskable ys → AreAskable (xs ++ ys)
join [] ys a b = b
join (x ∷ xs) ys a b = (a.0, join xs ys a.1 b)

flat_all : {A : Type 0} (f : A → List Cfg) (P : A → Type 0) (xs : List A) → ((x : A) → P x → AreAskable (f x)) → AllByRecursion P xs → AreAskable (flat_map f xs)
flat_all f P [] h a = tt
flat_all f P (x ∷ xs) h a = join (f x) (flat_map f xs) (h x a.0) (flat_all f P xs h a.1)

keep_if : {A : Type 0} (p : A → Bool) (P : A → Type 0) (x : A) (xs : List A) (b : Bool) → P x → AllByRecursion P xs → AllByRecursion P (if b then x ∷ xs else xs)
keep_if p P x xs true h a = (h, a)
keep_if p P x xs false h a = a

filter_all : {A : Type 0} (p : A → Bool) (P : A → Type 0) (xs : List A) → AllByRecursion P xs → AllByRecursion P (filter p xs)
filter_all p P [] a = tt
filter_all p P (x ∷ xs) a = keep_if p P x (filter p xs) (p x) a.0 (filter_all p P xs a.1)

map_all : {A B : Type 0} (f : A → B) (P : B → Type 0) (xs : List A) → AllByRecursion (λ x. P (f x)) xs → AllByRecursion P (map f xs)
map_all f P [] a = tt
map_all f P (x ∷ xs) a = (a.0, map_all f P xs a.1)

numbered_all : {A : Type 0} (f : ℕ → A → List Cfg) (P : A → Type 0) (i : ℕ) (xs : List A) → i + length xs ≤ 65536 → ((j : ℕ) (x : A) → j < 65536 → P x → AreAskable (f j x)) → AllByRecursion P xs → AreAskable (numbered f i xs)
numbered_all f P i [] few h a = tt
numbered_all f P i (x ∷ xs) few h a = join (f i x) (numbered f (i + 1) xs) (h i x (omega (arith, few)) a.0) (numbered_all f P (i + 1) xs (omega (arith, few)) h a.1)

every_one : {A : Type 0} (xs : List A) → AllByRecursion (λ x. Unit {0}) xs
every_one [] = tt
every_one (x ∷ xs) = (tt, every_one xs)

-- ---- settings

-- the index is a byte, the value a number of 64 bits
abbrev IsTyped : Setting → Type 0
IsTyped x = (x.index < 256) × FitsSigned w64 x.value

left : (a b : Bool) → (a && b) ≡ true → a ≡ true
left true b e = refl
left false b e = e

one_of : (ps : List ℤ) (n : ℕ) → n ≤ 64 → (length ps == n) ≡ true → length ps ≤ 64
one_of ps n h e = omega (arith, h, eqb-true (length ps) n e)

takes_few : (k : Kind) (ps : List ℤ) → takes k ps ≡ true → length ps ≤ 64
takes_few kinds.Const ps e = one_of ps 1 (omega arith) e
takes_few kinds.Ramp ps e = one_of ps 2 (omega arith) e
takes_few kinds.Counter ps e = one_of ps 1 (omega arith) (left (length ps == 1) _ e)
takes_few kinds.Gain ps e = one_of ps 1 (omega arith) e
takes_few kinds.Sum ps e = one_of ps 0 (omega arith) e
takes_few kinds.Integrator ps e = one_of ps 2 (omega arith) e
takes_few kinds.Lag ps e = one_of ps 2 (omega arith) (left (length ps == 2) _ e)
takes_few kinds.Delay ps e = one_of ps 2 (omega arith) (left (length ps == 2) _ e)
takes_few kinds.Limiter ps e = one_of ps 2 (omega arith) (left (length ps == 2) _ e)
takes_few kinds.Deadband ps e = one_of ps 1 (omega arith) (left (length ps == 1) _ e)
takes_few kinds.Divider ps e = one_of ps 1 (omega arith) e
takes_few kinds.Oscillator ps e = one_of ps 4 (omega arith) e
takes_few kinds.Tank ps e = one_of ps 3 (omega arith) (left (length ps == 3) _ (left _ _ e))
takes_few kinds.Switch ps e = one_of ps 1 (omega arith) e
takes_few kinds.External ps e = grind (arith, nat_tests, e)

parameters_few : (o : Option SlaveDesc) → ((d : SlaveDesc) → o ≡ Some d → IsDesc d) → length (parameters_in o) ≤ 64
parameters_few None h = omega arith
parameters_few (Some d) h = takes_few d.kind d.parameters (h d refl).taken

set_all : (s : ℕ) (xs : List Setting) → AllByRecursion (λ x. IsTyped x) xs → AreAskable (settings_of s xs)
set_all s xs a = map_all set_parameter (λ (body : Cfg). IsAskable (Configure body)) (filter (λ (x : Setting). x.slave == s) xs) (each (filter (λ (x : Setting). x.slave == s) xs) (filter_all (λ (x : Setting). x.slave == s) (λ (x : Setting). IsTyped x) xs a))
  where
    wide : (z : ℤ) → FitsSigned w64 z → IsTrue (fits types.I64 z)
    wide (pos n) h = grind (arith, ints, nat_tests, h)
    wide (negsuc n) h = grind (arith, ints, nat_tests, h)

    each : (xs : List Setting) → AllByRecursion (λ x. IsTyped x) xs → AllByRecursion (λ (x : Setting). IsAskable (Configure (set_parameter x))) xs
    each [] a = tt
    each (x ∷ xs) a = (parameter x.index x.value (omega (arith, a.0.0)) (wide x.value a.0.1), each xs a.1)

-- ---- data ids

protocol_few : (p : Protocol) → protocol_code p < 256
protocol_few Udp = omega arith
protocol_few Tcp = omega arith

at_all : {A : Type 0} (P : A → Type 0) (xs : List A) (i : ℕ) (x : A) → AllByRecursion P xs → slice_get xs i ≡ Some x → P x
at_all P [] zero x a e = absurd (cc)
at_all P [] (suc i) x a e = absurd (cc)
at_all P (y ∷ xs) zero x a e = let s : y ≡ x = cc in subst P s a.0
at_all P (y ∷ xs) (suc i) x a e = at_all P xs i x a.1 e

address_fits : (sc : Scenario) (o : Option SlaveDesc) → IsAddress sc.master → ((d : SlaveDesc) → o ≡ Some d → IsDesc d) → ((source_address sc o).port < 65536) × ((source_address sc o).ip < 2 ^ 32)
address_fits sc None m h = (omega (arith, m.port.1), m.ip)
address_fits sc (Some d) m h = let x = h d refl in (omega (arith, x.port.1), x.ip)

slave_desc_at : (slaves : List SlaveDesc) (e : ℕ) (d : SlaveDesc) → AllByRecursion (λ d. IsDesc d) slaves → slave_at slaves e ≡ Some d → IsDesc d
slave_desc_at slaves e d a h = by (e == 0) h
  where
    by : (b : Bool) → (if b then None else slice_get slaves (e - 1)) ≡ Some d → IsDesc d
    by true h = absurd (cc)
    by false h = at_all (λ (d : SlaveDesc). IsDesc d) slaves (e - 1) d a h

net_fits : (sc : Scenario) (id e : ℕ) → IsScenario sc → id < 65536 → IsNetInfo (net_info sc id e)
net_fits sc id e h small =
    let a = address_fits sc (slave_at sc.slaves e) h.master (λ d is. slave_desc_at sc.slaves e d (recursion_from_All (λ (d : SlaveDesc). IsDesc d) sc.slaves h.slaves) is) in
    record { data_id = small; protocol = protocol_few sc.protocol; port = a.0; ip = a.1 }

abbrev IsLink : DataLink → Type 0
IsLink l = (l.id < 65536) × (l.every < 2 ^ 32)

q_few : (o : Option Every) → ((e : Every) → o ≡ Some e → e.q ≤ 1000) → q_of o < 2 ^ 32
q_few None h = omega arith
q_few (Some e) h = omega (arith, h e refl)

found_by : {A : Type 0} (P : A → Type 0) (y x : A) (o : Option A) (b : Bool) → P y → (o ≡ Some x → P x) → cond b (Some y) o ≡ Some x → P x
found_by P y x o true h f e = let s : y ≡ x = cc in subst P s h
found_by P y x o false h f e = f e

found_all : {A : Type 0} (p : A → Bool) (P : A → Type 0) (xs : List A) (x : A) → AllByRecursion P xs → find p xs ≡ Some x → P x
found_all p P [] x a e = absurd (cc)
found_all p P (y ∷ xs) x a e = found_by P y x (find p xs) (p y) a.0 (λ f. found_all p P xs x a.1 f) e

interval_few : (every : List Every) (a b : ℕ) → AllByRecursion (λ e. e.q ≤ 1000) every → interval every a b < 2 ^ 32
interval_few every a b all = q_few (every_between every a b) (λ e is. found_all (λ (e : Every). (e.from == a) && (e.to == b)) (λ (e : Every). e.q ≤ 1000) every e all is)

links_all : (sc : Scenario) (id : ℕ) (ps : List Pair) → AllByRecursion (λ e. e.q ≤ 1000) sc.every → id + length ps ≤ 65536 → AllByRecursion (λ l. IsLink l) (links_from sc id ps)
links_all sc id [] all few = tt
links_all sc id (p ∷ ps) all few = ((omega (arith, few), interval_few sc.every p.from p.to all), links_all sc (id + 1) ps all (omega (arith, few)))

told_all : (l : DataLink) → IsLink l → AreAskable (told_interval l)
told_all l h = by (l.every == 1)
  where
    by : (b : Bool) → AreAskable (if b then [] else cfg.Steps l.id l.every ∷ [])
    by true = tt
    by false = (steps l.id l.every h.0 h.1, tt)

inputs_all : (id i : ℕ) (o : Option Port) → id < 65536 → i < 65536 → ((p : Port) → o ≡ Some p → p.vr < 2 ^ 64) → AreAskable (input_at id i o)
inputs_all id i None hd hi h = tt
inputs_all id i (Some p) hd hi h = (input id i p.vr p.kind hd hi (h p refl), tt)

outputs_all : (id i : ℕ) (o : Option Port) → id < 65536 → i < 65536 → ((p : Port) → o ≡ Some p → p.vr < 2 ^ 64) → AreAskable (output_at id i o)
outputs_all id i None hd hi h = tt
outputs_all id i (Some p) hd hi h = (output id i p.vr hd hi (h p refl), tt)

positions_few : (sc : Scenario) (l : DataLink) → 0 + length (positions sc.wires l.from l.to) ≤ 65536
positions_few sc l = let h : length (positions sc.wires l.from l.to) ≤ 64 = grid_few (is_wire sc.wires l.from l.to) in omega (arith, h)

incoming_all : (sc : Scenario) (d : SlaveDesc) (l : DataLink) → IsScenario sc → IsDesc d → IsLink l → AreAskable (incoming sc d l)
incoming_all sc d l h desc link =
    let vrs = recursion_from_All (λ (p : Port). p.vr < 2 ^ 64) d.inputs desc.vrs.0 in
    let first = numbered_all (λ i (p : Pair). input_at l.id i (slice_get d.inputs p.to)) (λ (p : Pair). Unit {0}) 0 (positions sc.wires l.from l.to) (positions_few sc l)
    (λ j p small u. inputs_all l.id j (slice_get d.inputs p.to) link.0 small (λ port is. at_all (λ (p : Port). p.vr < 2 ^ 64) d.inputs p.to port vrs is)) (every_one (positions sc.wires l.from l.to)) in
    join _ (cfg.Source (net_info sc l.id l.from) ∷ told_interval l) first (source (net_info sc l.id l.from) (net_fits sc l.id l.from h link.0), told_all l link)

outgoing_all : (sc : Scenario) (d : SlaveDesc) (l : DataLink) → IsScenario sc → IsDesc d → IsLink l → AreAskable (outgoing sc d l)
outgoing_all sc d l h desc link =
    let vrs = recursion_from_All (λ (p : Port). p.vr < 2 ^ 64) d.outputs desc.vrs.1 in
    let first = numbered_all (λ i (p : Pair). output_at l.id i (slice_get d.outputs p.from)) (λ (p : Pair). Unit {0}) 0 (positions sc.wires l.from l.to) (positions_few sc l)
    (λ j p small u. outputs_all l.id j (slice_get d.outputs p.from) link.0 small (λ port is. at_all (λ (p : Port). p.vr < 2 ^ 64) d.outputs p.from port vrs is)) (every_one (positions sc.wires l.from l.to)) in
    join _ (cfg.Target (net_info sc l.id l.to) ∷ told_interval l) first (target (net_info sc l.id l.to) (net_fits sc l.id l.to h link.0), told_all l link)

watched_all : (sc : Scenario) (s : ℕ) (d : SlaveDesc) → IsScenario sc → IsDesc d → s < 65536 → AreAskable (watched sc s d)
watched_all sc s d h desc small =
    let vrs = recursion_from_All (λ (p : Port). p.vr < 2 ^ 64) d.outputs desc.vrs.1 in
    let first = numbered_all (λ i (p : Port). output_at s i (Some p)) (λ (p : Port). p.vr < 2 ^ 64) 0 d.outputs (omega (arith, desc.few_outputs.1)) (λ j p low vr. (output s j p.vr small low vr, tt)) vrs in
    join _ (cfg.Target (net_info sc s 0) ∷ []) first (target (net_info sc s 0) (net_fits sc s 0 h small), tt)

wire_links_all : (sc : Scenario) → IsScenario sc → AllByRecursion (λ l. IsLink l) (wire_links sc)
wire_links_all sc h =
    let few : length (wired_pairs sc) ≤ 256 = pairs_few (is_wired_pair sc.wires) 1 (length sc.slaves) 1 (length sc.slaves) h.few_slaves.1 h.few_slaves.1 in
    let every = recursion_from_All (λ (e : Every). e.q ≤ 1000) sc.every (λ i d l. (h.every i d l).q.1) in
    links_all sc 17 (wired_pairs sc) every (omega (arith, few))

typed : (sc : Scenario) (x : Setting) → IsScenario sc → IsSetting sc.slaves x → IsTyped x
typed sc x h k =
    let few = parameters_few (slave_at sc.slaves x.slave) (λ d is. slave_desc_at sc.slaves x.slave d (recursion_from_All (λ (d : SlaveDesc). IsDesc d) sc.slaves h.slaves) is) in
    (omega (arith, k.index, few), k.value)

setup_all : (sc : Scenario) (s : ℕ) (d : SlaveDesc) → IsScenario sc → IsDesc d → s < 65536 → AreAskable (setup_list sc s d)
setup_all sc s d h desc small =
    let links = wire_links_all sc h in
    let ins = flat_all (incoming sc d) IsLink (filter (λ (l : DataLink). l.to == s) (wire_links sc)) (λ l k. incoming_all sc d l h desc k) (filter_all (λ (l : DataLink). l.to == s) IsLink (wire_links sc) links) in
    let outs = flat_all (outgoing sc d) IsLink (filter (λ (l : DataLink). l.from == s) (wire_links sc)) (λ l k. outgoing_all sc d l h desc k) (filter_all (λ (l : DataLink). l.from == s) IsLink (wire_links sc) links) in
    let sets = set_all s sc.settings (recursion_from_All (λ (x : Setting). IsTyped x) sc.settings (λ i x l. typed sc (slice_index_or sc.settings i x) h (h.settings i x l))) in
    let head : List Cfg = cfg.Clear ∷ cfg.TimeRes d.numerator d.denominator ∷ [] in
    let a : List Cfg = settings_of s sc.settings in
    let b : List Cfg = flat_map (incoming sc d) (filter (λ (l : DataLink). l.to == s) (wire_links sc)) in
    let e : List Cfg = flat_map (outgoing sc d) (filter (λ (l : DataLink). l.from == s) (wire_links sc)) in
    join (((head ++ a) ++ b) ++ e) (watched sc s d) (join ((head ++ a) ++ b) e (join (head ++ a) b (join head a (clear, (time_res d.numerator d.denominator desc.numerator.1 desc.denominator.1, tt)) sets) ins) outs) (watched_all sc s d h desc small)

adjust_all : (sc : Scenario) (r s : ℕ) → IsScenario sc → AreAskable (adjust_list sc r s)
adjust_all sc r s h =
    let reruns = recursion_from_All (λ (x : Rerun). IsTyped (setting_in x)) sc.reruns (λ i x l. typed sc (setting_in (slice_index_or sc.reruns i x)) h (h.reruns i x l).setting) in
    set_all s (map setting_in (filter (λ (x : Rerun). x.run == r + 1) sc.reruns)) (map_all setting_in (λ (x : Setting). IsTyped x) (filter (λ (x : Rerun). x.run == r + 1) sc.reruns) (filter_all (λ (x : Rerun). x.run == r + 1) (λ (x : Rerun). IsTyped (setting_in x)) sc.reruns reruns))

adjusts_all : (sc : Scenario) (s : ℕ) (rs : List ℕ) → IsScenario sc → AllByRecursion (λ list. AreAskable list) (map (λ r. adjust_list sc r s) rs)
adjusts_all sc s [] h = tt
adjusts_all sc s (r ∷ rs) h = (adjust_all sc r s h, adjusts_all sc s rs h)

slaves_all : (sc : Scenario) (s : ℕ) (ds : List SlaveDesc) → IsScenario sc → AllByRecursion (λ d. IsDesc d) ds → s + length ds ≤ 256 → AllByRecursion (λ slave. IsScriptAskable slave) (slaves_from sc s ds)
slaves_all sc s [] h a few = tt
slaves_all sc s (d ∷ ds) h a few = (
  record {
    id = omega (arith, few);
    uuid = a.0.uuid;
    setup = setup_all sc s d h a.0 (omega (arith, few));
    adjusts = adjusts_all sc s (range_with_len 1 (sc.runs - 1)) h;
  },
  slaves_all sc (s + 1) ds h a.1 (omega (arith, few)),
)

-- all slaves of a scenario
pub all_askable : (sc : Scenario) → IsScenario sc → AllByRecursion (λ slave. IsScriptAskable slave) (slaves_from sc 1 sc.slaves)
all_askable sc h = slaves_all sc 1 sc.slaves h (recursion_from_All (λ (d : SlaveDesc). IsDesc d) sc.slaves h.slaves) (omega (arith, h.few_slaves.1))
