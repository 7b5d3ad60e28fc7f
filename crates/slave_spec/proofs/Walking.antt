-- A log is allowed exactly where its entries lead from the beginning to an end, one after the other.
use Rattle.std.proofs.Common.{◌≡◌, ℕ, Bool, true, false, ◌&&◌, ◌==◌, List, [], ◌∷◌, ◌++◌, refl, ap, sym, subst, ◌∙◌, append_assoc, arith}
use Rattle.std.proofs.lemmas.List.{append-nil}
use Rattle.std.proofs.lemmas.List.Elements.{filter-append}
use Rattle.std.proofs.lemmas.Bool.{eq-eqb}
use Rattle.std.proofs.lemmas.Bool.Decides.{nat_tests}
use Rattle.dcp_types.specs.declared.addresses.Address.{Address}
use Rattle.dcp_ends.specs.declared.entries.LogEntry.{LogEntry}
use Rattle.dcp_ends.specs.declared.entries.LogEntry.TheVariants.{Sent, Got, Idle, Turn}
use Rattle.dcp_ends.specs.Events.{Event, Gram, Tick, Send}
use Rattle.dcp_ends.specs.Logs.{same_address, entry_of, sent_by}
use Rattle.slave_desc.specs.declared.descriptions.SlaveDesc.{SlaveDesc}
use Rattle.slave_spec.specs.Foreign.{ForeignState, foreign_fresh, MaySendAt}
use Rattle.slave_spec.specs.Allowed.{end_of_entry, entries_of, Piece, Rests, Acts, cut_entries, AreAllowed, Allowed, IsAllowedFront}
use Rattle.slave_spec.specs.Standpoints.{Standpoint, Between, Within, FromBetween, LeadsOn, Walks, MayEnd, MayGoOn, HasComeTo}

-- ---- addresses

address : ℕ → ℕ → Address
address ip port = record { ip = ip; port = port }

pub address_is : (a b : Address) → same_address a b ≡ true → a ≡ b
unfolding address
address_is a b h =
    let ip : a.ip ≡ b.ip = grind (arith, nat_tests) in
    let port : a.port ≡ b.port = grind (arith, nat_tests) in
    ap (λ (i : ℕ). address i a.port) ip ∙ ap (λ (p : ℕ). address b.ip p) port

pub same_self : (a : Address) → same_address a a ≡ true
same_self a = both (a.ip == a.ip) (a.port == a.port) (eq-eqb a.ip a.ip refl) (eq-eqb a.port a.port refl)
  where
    both : (x y : Bool) → x ≡ true → y ≡ true → (x && y) ≡ true
    both true true p q = refl
    both true false p q = absurd cc
    both false y p q = absurd cc

-- all entries are of this end
abbrev pub AreOf : Address → List LogEntry → Type 0
AreOf place [] = Unit {0}
AreOf place (entry ∷ entries) = (end_of_entry entry ≡ place) × AreOf place entries

pub entries_are_of : (place : Address) (entries : List LogEntry) → AreOf place (entries_of place entries)
entries_are_of place [] = tt
entries_are_of place (entry ∷ entries) = by (same_address (end_of_entry entry) place) refl (entries_are_of place entries)
  where
    by : (b : Bool) → same_address (end_of_entry entry) place ≡ b → AreOf place (entries_of place entries) → AreOf place (entries_of place (entry ∷ entries))
    by true e more = rw e (address_is _ _ e, more)
    by false e more = rw e more

-- ---- one entry after the other

module _ (d : SlaveDesc) where
  from_more : (P Q : Standpoint → Type 0) → ((s : Standpoint) → P s → Q s) → (x : ForeignState) (entry : LogEntry) → FromBetween x entry P → FromBetween x entry Q
  from_more P Q f x (Sent from to bytes) h = h
  from_more P Q f x (Got at from bytes) h = f _ h
  from_more P Q f x (Idle at) h = f _ h
  from_more P Q f x (Turn at) h = f _ h

  pub leads_more : (P Q : Standpoint → Type 0) → ((s : Standpoint) → P s → Q s) → (spot : Standpoint) (entry : LogEntry) → LeadsOn d spot entry P → LeadsOn d spot entry Q
  leads_more P Q f (Between x) entry h = from_more P Q f x entry h
  leads_more P Q f (Within x event gone) (Sent from to bytes) h = f _ h
  leads_more P Q f (Within x event gone) (Got at from bytes) (y, may, h) = (y, may, f _ h)
  leads_more P Q f (Within x event gone) (Idle at) (y, may, h) = (y, may, f _ h)
  leads_more P Q f (Within x event gone) (Turn at) (y, may, h) = (y, may, f _ h)

  pub walks_more : (P Q : Standpoint → Type 0) → ((s : Standpoint) → P s → Q s) → (entries : List LogEntry) (spot : Standpoint) → Walks d P entries spot → Walks d Q entries spot
  walks_more P Q f [] spot h = f spot h
  walks_more P Q f (entry ∷ entries) spot h = leads_more _ _ (λ s k. walks_more P Q f entries s k) spot entry h

  pub walks_split : (P : Standpoint → Type 0) (front back : List LogEntry) (spot : Standpoint) → Walks d P (front ++ back) spot → Walks d (λ s. Walks d P back s) front spot
  walks_split P [] back spot h = h
  walks_split P (entry ∷ front) back spot h = leads_more _ _ (λ s k. walks_split P front back s k) spot entry h

  pub walks_join : (P : Standpoint → Type 0) (front back : List LogEntry) (spot : Standpoint) → Walks d (λ s. Walks d P back s) front spot → Walks d P (front ++ back) spot
  walks_join P [] back spot h = h
  walks_join P (entry ∷ front) back spot h = leads_more _ _ (λ s k. walks_join P front back s k) spot entry h

  -- ---- pieces

  -- an event that may be over ends before whatever leads on from there
  ends_before : (x : ForeignState) (event : Event) (gone : List Send) (y : ForeignState) (entries : List LogEntry) → MaySendAt d x event gone y
      → Walks d (MayEnd d) entries (Between y) → Walks d (MayEnd d) entries (Within x event gone)
  ends_before x event gone y [] may h = (y, may)
  ends_before x event gone y (Sent from to bytes ∷ entries) may h = absurd h
  ends_before x event gone y (Got at from bytes ∷ entries) may h = (y, may, h)
  ends_before x event gone y (Idle at ∷ entries) may h = (y, may, h)
  ends_before x event gone y (Turn at ∷ entries) may h = (y, may, h)

  sents_walk : (x : ForeignState) (event : Event) (y : ForeignState) (place : Address) (sent gone : List Send) (entries : List LogEntry) → MaySendAt d x event (gone ++ sent) y
      → Walks d (MayEnd d) entries (Between y) → Walks d (MayEnd d) (sent_by place sent ++ entries) (Within x event gone)
  sents_walk x event y place [] gone entries may h = ends_before x event gone y entries (subst (λ (l : List Send). MaySendAt d x event l y) (append-nil gone) may) h
  sents_walk x event y place (send ∷ sent) gone entries may h =
      sents_walk x event y place sent (gone ++ send ∷ []) entries (subst (λ (l : List Send). MaySendAt d x event l y) (sym (append_assoc gone (send ∷ []) sent)) may) h

  pub pieces_walk : (place : Address) (pieces : List Piece) (x : ForeignState) → AreAllowed d x pieces → Walks d (MayEnd d) (cut_entries place pieces) (Between x)
  pieces_walk place [] x h = tt
  pieces_walk place (Rests ∷ pieces) x h = pieces_walk place pieces x h
  pieces_walk place (Acts (Gram from bytes) sent ∷ pieces) x (y, may, h) = sents_walk x (Gram from bytes) y place sent [] (cut_entries place pieces) may (pieces_walk place pieces y h)
  pieces_walk place (Acts Tick sent ∷ pieces) x (y, may, h) = sents_walk x Tick y place sent [] (cut_entries place pieces) may (pieces_walk place pieces y h)

  record IsCut (place : Address) (x : ForeignState) (entries : List LogEntry) : Type 0 where
    pub pieces : List Piece
    pub cut : entries ≡ cut_entries place pieces
    pub allowed : AreAllowed d x pieces

  record IsCutAfter (place : Address) (x : ForeignState) (event : Event) (gone : List Send) (entries : List LogEntry) : Type 0 where
    pub sent : List Send
    pub after : ForeignState
    pub pieces : List Piece
    pub cut : entries ≡ sent_by place sent ++ cut_entries place pieces
    pub may : MaySendAt d x event (gone ++ sent) after
    pub allowed : AreAllowed d after pieces

  abbrev IsCutFrom : Address → Standpoint → List LogEntry → Type 0
  IsCutFrom place (Between x) entries = IsCut place x entries
  IsCutFrom place (Within x event gone) entries = IsCutAfter place x event gone entries

  began : (place : Address) (x : ForeignState) (event : Event) (entries : List LogEntry) → IsCutAfter place x event [] entries → IsCut place x (entry_of place event ∷ entries)
  began place x event entries h = record {
    pieces = Acts event h.sent ∷ h.pieces;
    cut = ap (λ (l : List LogEntry). entry_of place event ∷ l) h.cut;
    allowed = (h.after, h.may, h.allowed);
  }

  rested : (place : Address) (x : ForeignState) (entries : List LogEntry) → IsCut place x entries → IsCut place x (Idle place ∷ entries)
  rested place x entries h = record { pieces = Rests ∷ h.pieces; cut = ap (λ (l : List LogEntry). Idle place ∷ l) h.cut; allowed = h.allowed }

  over : (place : Address) (x y : ForeignState) (event : Event) (gone : List Send) (entries : List LogEntry) → MaySendAt d x event gone y → IsCut place y entries → IsCutAfter place x event gone entries
  over place x y event gone entries may h = record {
    sent = [];
    after = y;
    pieces = h.pieces;
    cut = h.cut;
    may = subst (λ (l : List Send). MaySendAt d x event l y) (sym (append-nil gone)) may;
    allowed = h.allowed;
  }

  went : (place to : Address) (bytes : List ℕ) (x : ForeignState) (event : Event) (gone : List Send) (entries : List LogEntry)
      → IsCutAfter place x event (gone ++ record { to = to; bytes = bytes } ∷ []) entries → IsCutAfter place x event gone (Sent place to bytes ∷ entries)
  went place to bytes x event gone entries h =
      let send : Send = record { to = to; bytes = bytes } in
      record {
        sent = send ∷ h.sent;
        after = h.after;
        pieces = h.pieces;
        cut = ap (λ (l : List LogEntry). Sent place to bytes ∷ l) h.cut;
        may = subst (λ (l : List Send). MaySendAt d x event l h.after) (append_assoc gone (send ∷ []) h.sent) h.may;
        allowed = h.allowed;
      }

  walk_cut : (place : Address) (entries : List LogEntry) (spot : Standpoint) → AreOf place entries → Walks d (MayEnd d) entries spot → IsCutFrom place spot entries
  walk_cut place [] (Between x) own h = record { pieces = []; cut = refl; allowed = tt }
  walk_cut place [] (Within x event gone) own (y, may) = over place x y event gone [] may (record { pieces = []; cut = refl; allowed = tt })
  walk_cut place (Sent from to bytes ∷ entries) (Between x) own h = absurd h
  walk_cut place (Got at from bytes ∷ entries) (Between x) (same, own) h =
      subst (λ (a : Address). IsCut place x (Got a from bytes ∷ entries)) (sym same) (began place x (Gram from bytes) entries (walk_cut place entries _ own h))
  walk_cut place (Idle at ∷ entries) (Between x) (same, own) h = subst (λ (a : Address). IsCut place x (Idle a ∷ entries)) (sym same) (rested place x entries (walk_cut place entries _ own h))
  walk_cut place (Turn at ∷ entries) (Between x) (same, own) h = subst (λ (a : Address). IsCut place x (Turn a ∷ entries)) (sym same) (began place x Tick entries (walk_cut place entries _ own h))
  walk_cut place (Sent from to bytes ∷ entries) (Within x event gone) (same, own) h =
      subst (λ (a : Address). IsCutAfter place x event gone (Sent a to bytes ∷ entries)) (sym same) (went place to bytes x event gone entries (walk_cut place entries _ own h))
  walk_cut place (Got at from bytes ∷ entries) (Within x event gone) (same, own) (y, may, h) =
      over place x y event gone _ may (subst (λ (a : Address). IsCut place y (Got a from bytes ∷ entries)) (sym same) (began place y (Gram from bytes) entries (walk_cut place entries _ own h)))
  walk_cut place (Idle at ∷ entries) (Within x event gone) (same, own) (y, may, h) =
      over place x y event gone _ may (subst (λ (a : Address). IsCut place y (Idle a ∷ entries)) (sym same) (rested place y entries (walk_cut place entries _ own h)))
  walk_cut place (Turn at ∷ entries) (Within x event gone) (same, own) (y, may, h) =
      over place x y event gone _ may (subst (λ (a : Address). IsCut place y (Turn a ∷ entries)) (sym same) (began place y Tick entries (walk_cut place entries _ own h)))

  -- ---- allowed lists

  pub allowed_walks : (entries : List LogEntry) → Allowed d entries → Walks d (MayEnd d) (entries_of d.address entries) (Between foreign_fresh)
  allowed_walks entries h = subst (λ (l : List LogEntry). Walks d (MayEnd d) l (Between foreign_fresh)) (sym h.cut) (pieces_walk d.address h.pieces foreign_fresh h.allowed)

  pub walk_allowed : (entries : List LogEntry) → Walks d (MayEnd d) (entries_of d.address entries) (Between foreign_fresh) → Allowed d entries
  walk_allowed entries h =
      let c = walk_cut d.address (entries_of d.address entries) (Between foreign_fresh) (entries_are_of d.address entries) h in
      record { pieces = c.pieces; cut = c.cut; allowed = c.allowed }

  -- ---- fronts of allowed lists

  end_goes : (entries : List LogEntry) (spot : Standpoint) → Walks d (MayEnd d) entries spot → MayGoOn d spot
  end_goes entries (Between x) h = tt
  end_goes [] (Within x event gone) (y, may) = ([], y, subst (λ (l : List Send). MaySendAt d x event l y) (sym (append-nil gone)) may)
  end_goes (Sent from to bytes ∷ entries) (Within x event gone) h = more (end_goes entries (Within x event (gone ++ record { to = to; bytes = bytes } ∷ [])) h)
    where
      more : MayGoOn d (Within x event (gone ++ record { to = to; bytes = bytes } ∷ [])) → MayGoOn d (Within x event gone)
      more (left, y, may) = (record { to = to; bytes = bytes } ∷ left, y, subst (λ (l : List Send). MaySendAt d x event l y) (append_assoc gone (record { to = to; bytes = bytes } ∷ []) left) may)
  end_goes (Got at from bytes ∷ entries) (Within x event gone) (y, may, h) = ([], y, subst (λ (l : List Send). MaySendAt d x event l y) (sym (append-nil gone)) may)
  end_goes (Idle at ∷ entries) (Within x event gone) (y, may, h) = ([], y, subst (λ (l : List Send). MaySendAt d x event l y) (sym (append-nil gone)) may)
  end_goes (Turn at ∷ entries) (Within x event gone) (y, may, h) = ([], y, subst (λ (l : List Send). MaySendAt d x event l y) (sym (append-nil gone)) may)

  -- where entries lead on, one goes on
  pub goes_front : (entries : List LogEntry) (spot : Standpoint) → Walks d (MayGoOn d) entries spot → MayGoOn d spot
  goes_front entries (Between x) h = tt
  goes_front [] (Within x event gone) h = h
  goes_front (Sent from to bytes ∷ entries) (Within x event gone) h = more (goes_front entries (Within x event (gone ++ record { to = to; bytes = bytes } ∷ [])) h)
    where
      more : MayGoOn d (Within x event (gone ++ record { to = to; bytes = bytes } ∷ [])) → MayGoOn d (Within x event gone)
      more (left, y, may) = (record { to = to; bytes = bytes } ∷ left, y, subst (λ (l : List Send). MaySendAt d x event l y) (append_assoc gone (record { to = to; bytes = bytes } ∷ []) left) may)
  goes_front (Got at from bytes ∷ entries) (Within x event gone) (y, may, h) = ([], y, subst (λ (l : List Send). MaySendAt d x event l y) (sym (append-nil gone)) may)
  goes_front (Idle at ∷ entries) (Within x event gone) (y, may, h) = ([], y, subst (λ (l : List Send). MaySendAt d x event l y) (sym (append-nil gone)) may)
  goes_front (Turn at ∷ entries) (Within x event gone) (y, may, h) = ([], y, subst (λ (l : List Send). MaySendAt d x event l y) (sym (append-nil gone)) may)

  -- ---- one entry more

  abbrev Own : LogEntry → Bool
  Own entry = same_address (end_of_entry entry) d.address

  -- an entry of another end changes nothing
  pub other_entry : (entries : List LogEntry) (entry : LogEntry) (spot : Standpoint) → same_address (end_of_entry entry) d.address ≡ false → HasComeTo d entries spot → HasComeTo d (entries ++ entry ∷ []) spot
  other_entry entries entry spot o h =
      let e : entries_of d.address (entries ++ entry ∷ []) ≡ entries_of d.address entries = filter-append Own entries (entry ∷ []) ∙ rw o (append-nil (entries_of d.address entries)) in
      record {
        goes_on = h.goes_on;
        ends = λ more w. h.ends more (subst (λ (l : List LogEntry). Walks d (MayEnd d) (l ++ more) (Between foreign_fresh)) e w);
        ends_back = λ more w. subst (λ (l : List LogEntry). Walks d (MayEnd d) (l ++ more) (Between foreign_fresh)) (sym e) (h.ends_back more w);
        goes = λ more w. h.goes more (subst (λ (l : List LogEntry). Walks d (MayGoOn d) (l ++ more) (Between foreign_fresh)) e w);
        goes_back = λ more w. subst (λ (l : List LogEntry). Walks d (MayGoOn d) (l ++ more) (Between foreign_fresh)) (sym e) (h.goes_back more w);
      }

  -- an entry of the slave leads on to a spot
  pub own_entry : (entries : List LogEntry) (entry : LogEntry) (spot next : Standpoint) → same_address (end_of_entry entry) d.address ≡ true → HasComeTo d entries spot → MayGoOn d next
      → ((more : List LogEntry) → Walks d (MayEnd d) (entry ∷ more) spot → Walks d (MayEnd d) more next) → ((more : List LogEntry) → Walks d (MayEnd d) more next → Walks d (MayEnd d) (entry ∷ more) spot)
      → ((more : List LogEntry) → Walks d (MayGoOn d) (entry ∷ more) spot → Walks d (MayGoOn d) more next) → ((more : List LogEntry) → Walks d (MayGoOn d) more next → Walks d (MayGoOn d) (entry ∷ more) spot)
      → HasComeTo d (entries ++ entry ∷ []) next
  own_entry entries entry spot next o h g a b p q =
      let e : entries_of d.address (entries ++ entry ∷ []) ≡ entries_of d.address entries ++ entry ∷ [] = filter-append Own entries (entry ∷ []) ∙ rw o refl in
      let f : (more : List LogEntry) → entries_of d.address (entries ++ entry ∷ []) ++ more ≡ entries_of d.address entries ++ entry ∷ more =
      λ more. ap (λ (l : List LogEntry). l ++ more) e ∙ append_assoc (entries_of d.address entries) (entry ∷ []) more in
      record {
        goes_on = g;
        ends = λ more w. a more (h.ends (entry ∷ more) (subst (λ (l : List LogEntry). Walks d (MayEnd d) l (Between foreign_fresh)) (f more) w));
        ends_back = λ more w. subst (λ (l : List LogEntry). Walks d (MayEnd d) l (Between foreign_fresh)) (sym (f more)) (h.ends_back (entry ∷ more) (b more w));
        goes = λ more w. p more (h.goes (entry ∷ more) (subst (λ (l : List LogEntry). Walks d (MayGoOn d) l (Between foreign_fresh)) (f more) w));
        goes_back = λ more w. subst (λ (l : List LogEntry). Walks d (MayGoOn d) l (Between foreign_fresh)) (sym (f more)) (h.goes_back (entry ∷ more) (q more w));
      }

  -- no entry
  pub none_yet : HasComeTo d [] (Between foreign_fresh)
  none_yet = record { goes_on = tt; ends = λ more w. w; ends_back = λ more w. w; goes = λ more w. w; goes_back = λ more w. w }

  pub begins_walk : (entries : List LogEntry) → IsAllowedFront d entries → Walks d (MayGoOn d) (entries_of d.address entries) (Between foreign_fresh)
  begins_walk entries (more, h) =
      let own : LogEntry → Bool = λ entry. same_address (end_of_entry entry) d.address in
      let w : Walks d (MayEnd d) (entries_of d.address entries ++ entries_of d.address more) (Between foreign_fresh) =
      subst (λ (l : List LogEntry). Walks d (MayEnd d) l (Between foreign_fresh)) (filter-append own entries more) (allowed_walks (entries ++ more) h) in
      walks_more _ _ (λ s k. end_goes (entries_of d.address more) s k) (entries_of d.address entries) (Between foreign_fresh) (walks_split (MayEnd d) (entries_of d.address entries) (entries_of d.address more) (Between foreign_fresh) w)

  abbrev Completes : List LogEntry → Standpoint → Type 0
  Completes entries spot = (left : List Send) × Walks d (MayEnd d) (entries ++ sent_by d.address left) spot

  goes_completes : (entries : List LogEntry) (spot : Standpoint) → Walks d (MayGoOn d) entries spot → Completes entries spot
  goes_completes [] (Between x) h = ([], tt)
  goes_completes [] (Within x event gone) (left, y, may) =
      (left, subst (λ (l : List LogEntry). Walks d (MayEnd d) l (Within x event gone)) (append-nil (sent_by d.address left)) (sents_walk x event y d.address left gone [] may tt))
  goes_completes (Sent from to bytes ∷ entries) (Between x) h = absurd h
  goes_completes (Got at from bytes ∷ entries) (Between x) h = goes_completes entries _ h
  goes_completes (Idle at ∷ entries) (Between x) h = goes_completes entries _ h
  goes_completes (Turn at ∷ entries) (Between x) h = goes_completes entries _ h
  goes_completes (Sent from to bytes ∷ entries) (Within x event gone) h = goes_completes entries _ h
  goes_completes (Got at from bytes ∷ entries) (Within x event gone) (y, may, h) = let c = goes_completes entries _ h in (c.0, (y, may, c.1))
  goes_completes (Idle at ∷ entries) (Within x event gone) (y, may, h) = let c = goes_completes entries _ h in (c.0, (y, may, c.1))
  goes_completes (Turn at ∷ entries) (Within x event gone) (y, may, h) = let c = goes_completes entries _ h in (c.0, (y, may, c.1))

  sents_are_own : (sent : List Send) → entries_of d.address (sent_by d.address sent) ≡ sent_by d.address sent
  sents_are_own [] = refl
  sents_are_own (send ∷ sent) = rw (same_self d.address) (ap (λ (l : List LogEntry). Sent d.address send.to send.bytes ∷ l) (sents_are_own sent))

  pub walk_begins : (entries : List LogEntry) → Walks d (MayGoOn d) (entries_of d.address entries) (Between foreign_fresh) → IsAllowedFront d entries
  walk_begins entries h =
      let own : LogEntry → Bool = λ entry. same_address (end_of_entry entry) d.address in
      let c = goes_completes (entries_of d.address entries) (Between foreign_fresh) h in
      let more : List LogEntry = sent_by d.address c.0 in (
        more,
        walk_allowed (entries ++ more) (subst (λ (l : List LogEntry). Walks d (MayEnd d) l (Between foreign_fresh))
            (ap (λ (l : List LogEntry). entries_of d.address entries ++ l) (sym (sents_are_own c.0)) ∙ sym (filter-append own entries more)) c.1),
      )

  -- entries that cannot go on with one more
  pub never_begins : (entries : List LogEntry) (entry : LogEntry) (spot : Standpoint) → same_address (end_of_entry entry) d.address ≡ true → HasComeTo d entries spot
      → ((more : List LogEntry) → Walks d (MayGoOn d) (entry ∷ more) spot → ⊥) → (more : List LogEntry) → IsAllowedFront d (entries ++ entry ∷ more) → ⊥
  never_begins entries entry spot o h never more b =
      let e : entries_of d.address (entries ++ entry ∷ more) ≡ entries_of d.address entries ++ entry ∷ entries_of d.address more = filter-append Own entries (entry ∷ more) ∙ rw o refl in
      never (entries_of d.address more) (h.goes (entry ∷ entries_of d.address more)
      (subst (λ (l : List LogEntry). Walks d (MayGoOn d) l (Between foreign_fresh)) e (begins_walk (entries ++ entry ∷ more) b)))

  pub come_begins : (entries : List LogEntry) (spot : Standpoint) → HasComeTo d entries spot → IsAllowedFront d entries
  come_begins entries spot h =
      walk_begins entries (subst (λ (l : List LogEntry). Walks d (MayGoOn d) l (Between foreign_fresh)) (append-nil (entries_of d.address entries)) (h.goes_back [] h.goes_on))

  pub come_allowed : (entries : List LogEntry) (spot : Standpoint) → HasComeTo d entries spot → MayEnd d spot → Allowed d entries
  come_allowed entries spot h e =
      walk_allowed entries (subst (λ (l : List LogEntry). Walks d (MayEnd d) l (Between foreign_fresh)) (append-nil (entries_of d.address entries)) (h.ends_back [] e))

  pub come_refused : (entries : List LogEntry) (spot : Standpoint) → HasComeTo d entries spot → (MayEnd d spot → ⊥) → Allowed d entries → ⊥
  come_refused entries spot h never a =
      never (h.ends [] (subst (λ (l : List LogEntry). Walks d (MayEnd d) l (Between foreign_fresh)) (sym (append-nil (entries_of d.address entries))) (allowed_walks entries a)))
