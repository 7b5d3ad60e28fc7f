-- The names and the addresses of the slaves differ, and those of the open block are new.
use Rattle.std.proofs.Common.{◌≡◌, ◌≢◌, ℕ, Bool, true, false, not, ◌||◌, eqb, get_or, List, [], ◌∷◌, ◌++◌, length, Option, Some, None, Ok, refl, sym, ap, ◌∙◌, subst, arith}
use Rattle.std.specs.Prelude.{All, AllPairs, IfSome}
use Rattle.std.specs.List.{list_any}
use Rattle.std.specs.Str.{bytes_eq}
use Rattle.std.proofs.lemmas.Bool.{false≢true, and_from, eq-eqb}
use Rattle.std.proofs.lemmas.List.Elements.{All-push}
use Rattle.std.proofs.lemmas.List.Quantifiers.{all_pairs_push}
use Rattle.std.proofs.lemmas.Slice.Eq.{bytes_eq-Decides}
use Rattle.dcp_types.specs.declared.addresses.Address.{Address}
use Rattle.text_lines.specs.Causes.{or_why, refused_if, unless}
use Rattle.text_lines.proofs.Results.{bind_ok, some_ok, moved}
use Rattle.text_lines.specs.declared.reasons.TextWhy.TheVariants as why
use Rattle.fixed_models.specs.Kinds.{has_ports}
use Rattle.desc_text.specs.Machine.{put_item, nothing}
use Rattle.desc_text.specs.Machine as block
use Rattle.desc_text.proofs.Held.{not_refused}
use Rattle.desc_text.proofs.Judged.{unless_ok}
use Rattle.desc_text.specs.declared.items.Item.{Item}
use Rattle.desc_text.specs.declared.items.Item.TheVariants as items
use Rattle.desc_text.specs.declared.partials.Partial.{Partial}
use Rattle.slave_desc.specs.declared.descriptions.SlaveDesc.{SlaveDesc}
use Rattle.scenario_text.specs.Heads.{master_of_head, first_said}
use Rattle.scenario_text.specs.Said.{same_address, is_master}
use Rattle.scenario_text.specs.Clashes.{why_among}
use Rattle.scenario_text.proofs.LinkSets.{none_at}
use Rattle.scenario_text.specs.declared.heads.HeadItem.{HeadItem}
use Rattle.scenario_text.proofs.Refusing.{first_none}

abbrev has_name : List SlaveDesc → List ℕ → Bool
has_name slaves n = list_any (λ s. bytes_eq s.name n) slaves

abbrev has_address : List SlaveDesc → Address → Bool
has_address slaves a = list_any (λ s. same_address s.address a) slaves

-- what is known of slaves and of the open block, where this may be the master's address
pub record AreNew (master : Option Address) (slaves : List SlaveDesc) (open_block : Partial) : Type 0 where
  pub names : AllPairs (λ d e. d.name ≢ e.name) slaves
  pub addresses : AllPairs (λ d e. d.address ≢ e.address) slaves
  pub others : All (λ d. is_master master d.address ≡ false) slaves
  pub name : IfSome open_block.name (λ n. has_name slaves n ≡ false)
  pub address : IfSome open_block.address (λ a. (is_master master a || has_address slaves a) ≡ false)

names_differ : (m n : List ℕ) → bytes_eq m n ≡ false → m ≢ n
names_differ m n e same = false≢true (sym e ∙ (bytes_eq-Decides m n).1 same)

pub addresses_differ : (a b : Address) → same_address a b ≡ false → a ≢ b
addresses_differ a b e same =
    false≢true (sym e ∙ and_from (eqb a.ip b.ip) (eqb a.port b.port) (eq-eqb a.ip b.ip (ap (λ (a : Address). a.ip) same)) (eq-eqb a.port b.port (ap (λ (a : Address). a.port) same)))

left_false : (a b : Bool) → (a || b) ≡ false → (a ≡ false) × (b ≡ false)
left_false true b e = absurd (false≢true (sym e))
left_false false b e = (refl, e)

-- no slave and no block
pub none_new : (master : Option Address) → AreNew master [] nothing
none_new master = record {
  names = λ i j d below short. absurd (omega arith);
  addresses = λ i j d below short. absurd (omega arith);
  others = λ k d below. absurd (omega arith);
  name = tt;
  address = tt;
}

-- the block's name and address are those of the slave that it gives
finished_from : (p : Partial) (d : SlaveDesc) → block.finished p ≡ Ok d → (p.name ≡ Some d.name) × (p.address ≡ Some d.address)
finished_from p d e =
    let n = bind_ok (or_why p.name why.Missing) _ d e in
    let u = bind_ok (or_why p.uuid why.Missing) _ d n.2 in
    let a = bind_ok (or_why p.address why.Missing) _ d u.2 in
    let m = bind_ok (or_why p.model why.Missing) _ d a.2 in
    let o = bind_ok (unless (refused_if (eqb (length p.outputs) 0) why.Missing) (Ok p.outputs)) _ d m.2 in
    let last = unless_ok (refused_if (not (has_ports m.0.0 (length p.inputs) (length o.0))) why.Ports) _ d o.2 in
    moved (λ (d : SlaveDesc). (p.name ≡ Some d.name) × (p.address ≡ Some d.address)) _ d last.1 (some_ok p.name why.Missing n.0 n.1, some_ok p.address why.Missing a.0 a.1)

-- a block that closes
pub slave_new : (master : Option Address) (slaves : List SlaveDesc) (p : Partial) (d : SlaveDesc) → AreNew master slaves p → block.finished p ≡ Ok d → AreNew master (slaves ++ d ∷ []) nothing
slave_new master slaves p d h e =
    let from = finished_from p d e in
    let name : has_name slaves d.name ≡ false = subst (λ (o : Option (List ℕ)). IfSome o (λ n. has_name slaves n ≡ false)) from.0 h.name in
    let address = left_false (is_master master d.address) (has_address slaves d.address) (subst (λ (o : Option Address). IfSome o (λ a. (is_master master a || has_address slaves a) ≡ false)) from.1 h.address) in
    record {
      names = all_pairs_push (λ (d e : SlaveDesc). d.name ≢ e.name) slaves d h.names
          (λ k x below. names_differ (get_or slaves k x).name d.name (none_at (λ (s : SlaveDesc). bytes_eq s.name d.name) slaves k x name below));
      addresses = all_pairs_push (λ (d e : SlaveDesc). d.address ≢ e.address) slaves d h.addresses
          (λ k x below. addresses_differ (get_or slaves k x).address d.address (none_at (λ (s : SlaveDesc). same_address s.address d.address) slaves k x address.1 below));
      others = All-push (λ d. is_master master d.address ≡ false) slaves d h.others address.0;
      name = tt;
      address = tt;
    }

-- an item of the open block
pub item_new : (head : List HeadItem) (slaves : List SlaveDesc) (p : Partial) (i : Item) → AreNew (first_said master_of_head head) slaves p → why_among head slaves i ≡ None → AreNew (first_said master_of_head head) slaves (put_item p i)
item_new head slaves p (items.Slave n) h e = record { names = h.names; addresses = h.addresses; others = h.others; name = (first_none (has_name slaves n) why.Repeated _ e).0; address = h.address }
item_new head slaves p (items.Address a) h e = record { names = h.names; addresses = h.addresses; others = h.others; name = h.name; address = not_refused _ why.SameAddress e }
item_new head slaves p (items.Uuid n) h e = record { names = h.names; addresses = h.addresses; others = h.others; name = h.name; address = h.address }
item_new head slaves p (items.Model k ps) h e = record { names = h.names; addresses = h.addresses; others = h.others; name = h.name; address = h.address }
item_new head slaves p (items.Busy n) h e = record { names = h.names; addresses = h.addresses; others = h.others; name = h.name; address = h.address }
item_new head slaves p (items.Heartbeat n) h e = record { names = h.names; addresses = h.addresses; others = h.others; name = h.name; address = h.address }
item_new head slaves p (items.Resolution n d) h e = record { names = h.names; addresses = h.addresses; others = h.others; name = h.name; address = h.address }
item_new head slaves p (items.Input q) h e = record { names = h.names; addresses = h.addresses; others = h.others; name = h.name; address = h.address }
item_new head slaves p (items.Output q) h e = record { names = h.names; addresses = h.addresses; others = h.others; name = h.name; address = h.address }

-- the slaves' addresses differ from the master's
pub others_differ : (slaves : List SlaveDesc) (o : Option Address) (m : Address) → o ≡ Some m → All (λ d. is_master o d.address ≡ false) slaves → All (λ d. m ≢ d.address) slaves
others_differ slaves o m e h k x below = addresses_differ m (get_or slaves k x).address (subst (λ (o : Option Address). is_master o (get_or slaves k x).address ≡ false) e (h k x below))
