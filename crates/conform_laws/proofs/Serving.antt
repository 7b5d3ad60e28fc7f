-- Entry by entry a slave whose model is not known goes on with its pieces, and its conversation with it.
use Rattle.std.proofs.Common.{◌≡◌, ℕ, suc, ◌+◌, Bool, true, false, if◌then◌else◌, ◌⊎◌, inl, inr, List, [], ◌∷◌, ◌++◌, map, reverse, length, refl, sym, ap, ◌∙◌, subst, arith, append_assoc}
use Rattle.std.specs.Prelude.{◌==◌, ◌&&◌}
use Rattle.std.proofs.lemmas.Bool.{cond-true}
use Rattle.std.proofs.lemmas.List.{append-nil, reverse-append}
use Rattle.dcp_types.specs.declared.addresses.Address.{Address}
use Rattle.dcp_ends.specs.declared.entries.LogEntry.{LogEntry}
use Rattle.dcp_ends.specs.declared.entries.LogEntry.TheVariants.{Sent, Got, Idle, Turn}
use Rattle.dcp_ends.specs.Events.{Event, Gram, Tick, Send}
use Rattle.dcp_ends.specs.Logs.{same_address, sent_by, events_at}
use Rattle.log_spec.specs.Messages.{Note, Role, Request, Answer, Value, Else}
use Rattle.log_spec.specs.Log.{Parties, IsSlaveOf, PartiesApart, same, role_heard, DecidedRequest}
use Rattle.log_spec.specs.Moves.{Move, Asks, Comes, Tells, Hears, Brings, Turns, Rests as RestsMove, Other, sent_move, got_move, move}
use Rattle.log_spec.proofs.Moves.{same_is, same_self}
use Rattle.lockstep_laws.specs.Slaves.{Post, IsNoRequest, AskNothing, IsFirstPost, ServesNote, SlaveMay, tail}
use Rattle.master_laws.proofs.Meets.Asking.{same_as}
use Rattle.slave_desc.specs.declared.descriptions.SlaveDesc.{SlaveDesc}
use Rattle.slave_spec.specs.Heard as spec
use Rattle.slave_laws.specs.Talk.Desks.{Agree, post}
use Rattle.slave_laws.specs.Talk.Sends.{ReadsMessages}
use Rattle.slave_spec.specs.Foreign.{ForeignState, foreign_fresh}
use Rattle.slave_spec.specs.Allowed.{end_of_entry, entries_of, Piece, Rests, Acts, cut_entries, AreAllowed}
use Rattle.conform_laws.specs.Served.{exchange_at, first_served}
use Rattle.conform_laws.specs.Serving.{AsksNothing, OthersAskNothing}
use Rattle.conform_laws.proofs.Cutting.{turned_about}
use Rattle.conform_laws.proofs.Asides.{sends_ask_nothing}
use Rattle.conform_laws.proofs.Taking.{Pairs, desk, got_so, accepts}
use Rattle.conform_laws.proofs.Conversing.{MasterAlone, IsFair, Converse, passes, got_on, turn_on}

-- ---- entries in a row

-- equal lists have equal heads and tails
heads : (a b : LogEntry) (xs ys : List LogEntry) → a ∷ xs ≡ b ∷ ys → (a ≡ b) × (xs ≡ ys)
heads a b xs ys h = let p : a ≡ b = cc in let q : xs ≡ ys = cc in (p, q)

-- equal Gots have the same sender and bytes
got_parts : (at at' from from' : Address) (bytes bytes' : List ℕ) → Got at from bytes ≡ Got at' from' bytes' → (from ≡ from') × (bytes ≡ bytes')
got_parts at at' from from' bytes bytes' h = let p : from ≡ from' = cc in let q : bytes ≡ bytes' = cc in (p, q)

-- equal Sents have the same receiver and bytes
sent_parts : (from from' to to' : Address) (bytes bytes' : List ℕ) → Sent from to bytes ≡ Sent from' to' bytes' → (to ≡ to') × (bytes ≡ bytes')
sent_parts from from' to to' bytes bytes' h = let p : to ≡ to' = cc in let q : bytes ≡ bytes' = cc in (p, q)

-- a Sent is no Got
sent_got : (from to at f : Address) (b b' : List ℕ) → Sent from to b ≡ Got at f b' → ⊥
sent_got from to at f b b' h = cc

-- a Sent is no Turn
sent_turn : (from to at : Address) (b : List ℕ) → Sent from to b ≡ Turn at → ⊥
sent_turn from to at b h = cc

-- a Sent is no Idle
sent_idle : (from to at : Address) (b : List ℕ) → Sent from to b ≡ Idle at → ⊥
sent_idle from to at b h = cc

-- a Got is no Turn
got_turn : (at f at' : Address) (b : List ℕ) → Got at f b ≡ Turn at' → ⊥
got_turn at f at' b h = cc

-- a Got is no Idle
got_idle : (at f at' : Address) (b : List ℕ) → Got at f b ≡ Idle at' → ⊥
got_idle at f at' b h = cc

-- a Turn is no Idle
turn_idle : (at at' : Address) → Turn at ≡ Idle at' → ⊥
turn_idle at at' h = cc

-- some entry is not none
none_left : (a : LogEntry) (xs : List LogEntry) → a ∷ xs ≡ [] → ⊥
none_left a xs h = cc

-- what is no Sent comes after all Sents
abbrev IsNoSent : LogEntry → Type 0
IsNoSent (Sent from to bytes) = ⊥
IsNoSent (Got at from bytes) = Unit {0}
IsNoSent (Idle at) = Unit {0}
IsNoSent (Turn at) = Unit {0}

-- so nothing is owed where it comes
nothing_owed : (place : Address) (a : LogEntry) (xs ys : List LogEntry) (owed : List Send) → IsNoSent a → a ∷ xs ≡ sent_by place owed ++ ys → (owed ≡ []) × (a ∷ xs ≡ ys)
nothing_owed place a xs ys [] no' h = (refl, h)
nothing_owed place a xs ys (p ∷ ps) no' h =
    let P : LogEntry → Type 0 = IsNoSent in
    absurd (subst P (heads a (Sent place p.to p.bytes) xs (sent_by place ps ++ ys) h).0 no')

-- a Sent is the first of those that are owed
pub record IsFirstOwed (place : Address) (to : Address) (bytes : List ℕ) (xs ys : List LogEntry) (owed : List Send) : Type 0 where
  pub first : Send
  pub rest : List Send
  pub is : owed ≡ first ∷ rest
  pub to_is : first.to ≡ to
  pub bytes_is : first.bytes ≡ bytes
  pub comes : xs ≡ sent_by place rest ++ ys

-- no piece begins with a Sent
no_sent_first : (place from to : Address) (bytes : List ℕ) (xs : List LogEntry) (pieces : List Piece) → Sent from to bytes ∷ xs ≡ cut_entries place pieces → ⊥
no_sent_first place from to bytes xs [] h = none_left _ _ h
no_sent_first place from to bytes xs (Rests ∷ pieces) h = sent_idle from to place bytes (heads (Sent from to bytes) (Idle place) xs (cut_entries place pieces) h).0
no_sent_first place from to bytes xs (Acts (Gram f b) sent ∷ pieces) h = sent_got from to place f bytes b (heads (Sent from to bytes) (Got place f b) xs (sent_by place sent ++ cut_entries place pieces) h).0
no_sent_first place from to bytes xs (Acts Tick sent ∷ pieces) h = sent_turn from to place bytes (heads (Sent from to bytes) (Turn place) xs (sent_by place sent ++ cut_entries place pieces) h).0

-- a Sent is owed
first_owed : (place from to : Address) (bytes : List ℕ) (xs : List LogEntry) (pieces : List Piece) (owed : List Send) → Sent from to bytes ∷ xs ≡ sent_by place owed ++ cut_entries place pieces → IsFirstOwed place to bytes xs (cut_entries place pieces) owed
first_owed place from to bytes xs pieces [] h = absurd (no_sent_first place from to bytes xs pieces h)
first_owed place from to bytes xs pieces (p ∷ ps) h =
    let z = heads (Sent from to bytes) (Sent place p.to p.bytes) xs (sent_by place ps ++ cut_entries place pieces) h in
    let q = sent_parts from place to p.to bytes p.bytes z.0 in
    record { first = p; rest = ps; is = refl; to_is = sym q.0; bytes_is = sym q.1; comes = z.1 }

-- ---- moves of the slave

module _ (w : Parties) (s : ℕ) (is : IsSlaveOf w s) (apart : PartiesApart w) where
  pub tells : (from to : Address) (bytes : List ℕ) (k : Role) → same from (w.slave s) ≡ true → sent_move w s from to bytes k ≡ Tells to bytes
  tells from to bytes (Request receiver n) e = by (same from w.master) refl (same to (w.slave s))
    where
      by : (b : Bool) → same from w.master ≡ b → (c : Bool) → (if b && c then Asks n else (if same from (w.slave s) then Tells to bytes else Other)) ≡ Tells to bytes
      by true f c = absurd (apart.master s is (sym (same_is from (w.slave s) e) ∙ same_is from w.master f))
      by false f c = cond-true (same from (w.slave s)) (Tells to bytes) Other e
  tells from to bytes (Answer sender n) e = cond-true (same from (w.slave s)) (Tells to bytes) Other e
  tells from to bytes (Value id n) e = cond-true (same from (w.slave s)) (Tells to bytes) Other e
  tells from to bytes Else e = cond-true (same from (w.slave s)) (Tells to bytes) Other e

  -- a datagram that comes to the slave
  pub gets : (at from : Address) (k : Role) → same at (w.slave s) ≡ true → got_move w s at from k ≡ got_so from k
  gets at from (Request receiver n) e = ap (λ c. if c then Comes from receiver n else Other) e
  gets at from (Answer sender n) e = ap (λ c. if c then RestsMove else (if (same at w.master && same from (w.slave s)) && (sender == s) then Hears n else Other)) e
  gets at from (Value id n) e = ap (λ c. if c then Brings from id n else Other) e
  gets at from Else e = ap (λ c. if c then RestsMove else Other) e

  -- of a move that is not the slave's nothing is asked, and nothing comes
  abbrev pub Free : Move → Type 0
  Free mv = ((owed : List Post) → SlaveMay mv owed) × ((served : List DecidedRequest) (owed : List Send) → (rd : ReadsMessages w) (d : SlaveDesc) → ServesNote w (accepts w rd d) mv (desk served owed) (desk served owed))

  -- a request is such a move
  asks_free : (n : Note) → Free (Asks n)
  asks_free n = (λ owed. tt, λ served owed rd d. refl)

  -- an answer that is heard is
  hears_free : (n : Note) → Free (Hears n)
  hears_free n = (λ owed. tt, λ served owed rd d. refl)

  -- and what is no move at all
  other_free : Free Other
  other_free = (λ owed. tt, λ served owed rd d. refl)

  -- so is the Sent of another end
  pub sent_free : (from to : Address) (bytes : List ℕ) (k : Role) → same from (w.slave s) ≡ false → Free (sent_move w s from to bytes k)
  sent_free from to bytes (Request receiver n) e = by (same from w.master && same to (w.slave s)) (same from (w.slave s)) e
    where
      by : (b c : Bool) → c ≡ false → Free (if b then Asks n else (if c then Tells to bytes else Other))
      by true c f = asks_free n
      by false false f = other_free
      by false true f = absurd cc
  sent_free from to bytes (Answer sender n) e = let Q : Bool → Type 0 = λ c. Free (if c then Tells to bytes else Other) in subst Q (sym e) other_free
  sent_free from to bytes (Value id n) e = let Q : Bool → Type 0 = λ c. Free (if c then Tells to bytes else Other) in subst Q (sym e) other_free
  sent_free from to bytes Else e = let Q : Bool → Type 0 = λ c. Free (if c then Tells to bytes else Other) in subst Q (sym e) other_free

  -- and the Got of another end
  pub got_free : (at from : Address) (k : Role) → same at (w.slave s) ≡ false → Free (got_move w s at from k)
  got_free at from (Request receiver n) e = let Q : Bool → Type 0 = λ c. Free (if c then Comes from receiver n else Other) in subst Q (sym e) other_free
  got_free at from (Answer sender n) e = let Q : Bool → Type 0 = λ c. Free (if c then RestsMove else (if (same at w.master && same from (w.slave s)) && (sender == s) then Hears n else Other)) in subst Q (sym e) (by ((same at w.master && same from (w.slave s)) && (sender == s)))
    where
      by : (b : Bool) → Free (if b then Hears n else Other)
      by true = hears_free n
      by false = other_free
  got_free at from (Value id n) e = let Q : Bool → Type 0 = λ c. Free (if c then Brings from id n else Other) in subst Q (sym e) other_free
  got_free at from Else e = let Q : Bool → Type 0 = λ c. Free (if c then RestsMove else Other) in subst Q (sym e) other_free

-- ---- one entry

module _ (w : Parties) (rd : ReadsMessages w) (agree : (bytes : List ℕ) → Agree (role_heard w bytes) (spec.heard bytes)) (s : ℕ) (is : IsSlaveOf w s) (apart : PartiesApart w) (d : SlaveDesc) (place : w.slave s ≡ d.address) (pieces : List Piece) (all : AreAllowed d foreign_fresh pieces) where
  here : (b : Address) → same b (w.slave s) ≡ same_address b d.address
  here b = same_as b (w.slave s) ∙ ap (same_address b) place

  -- the network and the master do at an entry what they may
  abbrev Fair : LogEntry → List LogEntry → Type 0
  Fair e log = IsFair w rd agree s d e log

  -- how the conversation stands after a log
  abbrev Speaks : List LogEntry → ForeignState → List DecidedRequest → List Send → Type 0
  Speaks log x es owed = Converse w rd agree s d log x es owed

  -- what was taken so far is what is left of it in fewer events
  abbrev SoFar : List LogEntry → (x : ForeignState) → (left : List Piece) → AreAllowed d x left → List DecidedRequest → Type 0
  SoFar log x left allowed es = (k : ℕ) → first_served w d (length (events_at d.address log) + k) foreign_fresh pieces all ≡ first_served w d k x left allowed ++ es

  -- where the slave stands in its pieces after a log, of which these entries are the rest
  pub record At (rest log : List LogEntry) : Type 0 where
    pub x : ForeignState
    pub left : List Piece
    pub allowed : AreAllowed d x left
    pub owed : List Send
    pub es : List DecidedRequest
    pub comes : entries_of d.address rest ≡ sent_by d.address owed ++ cut_entries d.address left
    pub asks : AskNothing w (map post owed)
    pub alone : MasterAlone w log
    pub so_far : SoFar log x left allowed es
    pub converse : Speaks log x es owed

  -- ---- an entry of another end

  -- it changes nothing
  away : (e : LogEntry) (rest log : List LogEntry) → entries_of d.address (e ∷ rest) ≡ entries_of d.address rest → length (events_at d.address (e ∷ log)) ≡ length (events_at d.address log)
      → Free w s is apart (move w s e) → Fair e log → (end_of_entry e ≡ w.master) ⊎ AsksNothing w e → At (e ∷ rest) log → At rest (e ∷ log)
  away e rest log same_entries same_count free fair o a = record {
    x = a.x;
    left = a.left;
    allowed = a.allowed;
    owed = a.owed;
    es = a.es;
    comes = sym same_entries ∙ a.comes;
    asks = a.asks;
    alone = (o, a.alone);
    so_far = λ k. ap (λ (m : ℕ). first_served w d (m + k) foreign_fresh pieces all) same_count ∙ a.so_far k;
    converse = passes w rd agree s d e log a.x a.es a.owed a.owed a.alone fair (free.0 (map post a.owed)) (λ served. free.1 served a.owed rd d) a.converse;
  }

  -- ---- a Sent

  -- a Sent of the slave is the next that it owes
  sent_here : (from to : Address) (bytes : List ℕ) (rest log : List LogEntry) → same from (w.slave s) ≡ true → Fair (Sent from to bytes) log → At (Sent from to bytes ∷ rest) log → At rest (Sent from to bytes ∷ log)
  sent_here from to bytes rest log f fair a =
      let e : LogEntry = Sent from to bytes in
      let P : Bool → Type 0 = λ b. (if b then e ∷ entries_of d.address rest else entries_of d.address rest) ≡ sent_by d.address a.owed ++ cut_entries d.address a.left in
      let z = first_owed d.address from to bytes (entries_of d.address rest) a.left a.owed (subst P (sym (here from) ∙ f) a.comes) in
      let mv = tells w s is apart from to bytes (role_heard w bytes) f in
      let M : Move → Type 0 = λ m. SlaveMay m (map post a.owed) in
      let R : List Send → Type 0 = λ o. IsFirstPost (map post o) to bytes in
      let N : Move → List DecidedRequest → Type 0 = λ m served. ServesNote w (accepts w rd d) m (desk served a.owed) (desk served z.rest) in
      let A : List Send → Type 0 = λ o. AskNothing w (map post o) in
      let Q : List ℕ → Type 0 = λ b. IsNoRequest (role_heard w b) in
      let asks = subst A z.is a.asks in
      record {
        x = a.x;
        left = a.left;
        allowed = a.allowed;
        owed = z.rest;
        es = a.es;
        comes = z.comes;
        asks = asks.1;
        alone = (inr (subst Q z.bytes_is asks.0), a.alone);
        so_far = a.so_far;
        converse = passes w rd agree s d e log a.x a.es a.owed z.rest a.alone fair (subst M (sym mv) (subst R (sym z.is) (z.to_is, z.bytes_is)))
            (λ served. subst (λ m. N m served) (sym mv) (refl, sym (ap (λ (o : List Send). tail (map post o)) z.is))) a.converse;
      }

  -- any Sent
  sent_at : (from to : Address) (bytes : List ℕ) (rest log : List LogEntry) → Fair (Sent from to bytes) log → (from ≡ w.master) ⊎ ((from ≡ w.slave s) ⊎ AsksNothing w (Sent from to bytes)) → At (Sent from to bytes ∷ rest) log → At rest (Sent from to bytes ∷ log)
  sent_at from to bytes rest log fair o a = by (same from (w.slave s)) refl
    where
      other : same from (w.slave s) ≡ false → (from ≡ w.master) ⊎ ((from ≡ w.slave s) ⊎ AsksNothing w (Sent from to bytes)) → (from ≡ w.master) ⊎ AsksNothing w (Sent from to bytes)
      other f (inl e) = inl e
      other f (inr (inl e)) = absurd (clash (sym f ∙ ap (λ (b : Address). same b (w.slave s)) e ∙ same_self (w.slave s)))
        where
          clash : false ≡ true → ⊥
          clash h = cc
      other f (inr (inr h)) = inr h

      by : (b : Bool) → same from (w.slave s) ≡ b → At rest (Sent from to bytes ∷ log)
      by true f = sent_here from to bytes rest log f fair a
      by false f =
          let own : same_address from d.address ≡ false = sym (here from) ∙ f in
          away (Sent from to bytes) rest log (ap (λ (b : Bool). if b then Sent from to bytes ∷ entries_of d.address rest else entries_of d.address rest) own) refl (sent_free w s is apart from to bytes (role_heard w bytes) f) fair (other f o) a

  -- ---- a Got

  -- where nothing is owed, a datagram may come
  got_may : (from : Address) (k : Role) → SlaveMay (got_so from k) []
  got_may from (Request receiver n) = refl
  got_may from (Answer sender n) = refl
  got_may from (Value id n) = refl
  got_may from Else = refl

  -- one event more so far is one less that is left
  one_more : (n m k : ℕ) → m ≡ n + 1 → m + k ≡ n + suc k
  one_more n m k e = omega (arith, e)

  -- a Got is one event more
  got_counts : (b : Bool) (from : Address) (bytes : List ℕ) (events : List Event) → b ≡ true → length ((if b then Gram from bytes ∷ [] else []) ++ events) ≡ length events + 1
  got_counts true from bytes events e = omega arith
  got_counts false from bytes events e = absurd cc

  -- a Turn is one event more
  turn_counts : (b : Bool) (events : List Event) → b ≡ true → length ((if b then Tick ∷ [] else []) ++ events) ≡ length events + 1
  turn_counts true events e = omega arith
  turn_counts false events e = absurd cc

  -- the entry is the slave's, whichever way one asks
  turned : (at : Address) (b : Bool) → same at (w.slave s) ≡ b → same_address d.address at ≡ b
  turned at b f = turned_about d.address at ∙ sym (here at) ∙ f

  -- a Got of the slave begins its next piece
  got_piece : (at from : Address) (bytes : List ℕ) (rest log : List LogEntry) (x : ForeignState) (left : List Piece) (allowed : AreAllowed d x left) (es : List DecidedRequest) → SoFar log x left allowed es
      → Got at from bytes ∷ entries_of d.address rest ≡ cut_entries d.address left → same at (w.slave s) ≡ true → MasterAlone w log → Fair (Got at from bytes) log → Speaks log x es [] → At rest (Got at from bytes ∷ log)
  got_piece at from bytes rest log x [] allowed es so cut f alone fair c = absurd (none_left _ _ cut)
  got_piece at from bytes rest log x (Rests ∷ left) allowed es so cut f alone fair c = absurd (got_idle at from d.address bytes (heads (Got at from bytes) (Idle d.address) (entries_of d.address rest) (cut_entries d.address left) cut).0)
  got_piece at from bytes rest log x (Acts Tick sent ∷ left) allowed es so cut f alone fair c = absurd (got_turn at from d.address bytes (heads (Got at from bytes) (Turn d.address) (entries_of d.address rest) (sent_by d.address sent ++ cut_entries d.address left) cut).0)
  got_piece at from bytes rest log x (Acts (Gram g b) sent ∷ left) allowed es so cut f alone fair c =
      let z = heads (Got at from bytes) (Got d.address g b) (entries_of d.address rest) (sent_by d.address sent ++ cut_entries d.address left) cut in
      let q = got_parts at d.address from g bytes b z.0 in
      let e : LogEntry = Got at from bytes in
      let mv : move w s e ≡ got_so g (role_heard w b) = gets w s is apart at from (role_heard w bytes) f ∙ ap (λ (i : Address). got_so i (role_heard w bytes)) q.0 ∙ ap (λ (l : List ℕ). got_so g (role_heard w l)) q.1 in
      let M : Move → Type 0 = λ m. SlaveMay m [] in
      let exchange : List DecidedRequest = exchange_at w d (allowed.1).choice x (Gram g b) in
      record {
        x = allowed.0;
        left = left;
        allowed = allowed.2;
        owed = sent;
        es = exchange ++ es;
        comes = z.1;
        asks = sends_ask_nothing w rd d x allowed.0 (Gram g b) sent allowed.1;
        alone = (inr tt, alone);
        so_far = λ k. ap (λ (m : ℕ). first_served w d m foreign_fresh pieces all) (one_more (length (events_at d.address log)) (length (events_at d.address (e ∷ log))) k (got_counts (same_address d.address at) from bytes (events_at d.address log) (turned at true f)))
            ∙ so (suc k) ∙ append_assoc (first_served w d k allowed.0 left allowed.2) exchange es;
        converse = got_on w rd agree s d e log x allowed.0 es g b sent alone fair mv (subst M (sym mv) (got_may g (role_heard w b))) allowed.1 c;
      }

  -- any Got
  got_at : (at from : Address) (bytes : List ℕ) (rest log : List LogEntry) → Fair (Got at from bytes) log → At (Got at from bytes ∷ rest) log → At rest (Got at from bytes ∷ log)
  got_at at from bytes rest log fair a = by (same at (w.slave s)) refl
    where
      e : LogEntry
      e = Got at from bytes

      by : (b : Bool) → same at (w.slave s) ≡ b → At rest (e ∷ log)
      by true f =
          let P : Bool → Type 0 = λ b. (if b then e ∷ entries_of d.address rest else entries_of d.address rest) ≡ sent_by d.address a.owed ++ cut_entries d.address a.left in
          let z = nothing_owed d.address e (entries_of d.address rest) (cut_entries d.address a.left) a.owed tt (subst P (sym (here at) ∙ f) a.comes) in
          let C : List Send → Type 0 = λ o. Speaks log a.x a.es o in
          got_piece at from bytes rest log a.x a.left a.allowed a.es a.so_far z.1 f a.alone fair (subst C z.0 a.converse)
      by false f =
          let own : same_address at d.address ≡ false = sym (here at) ∙ f in
          away e rest log (ap (λ (b : Bool). if b then e ∷ entries_of d.address rest else entries_of d.address rest) own)
          (ap (λ (b : Bool). length ((if b then Gram from bytes ∷ [] else []) ++ events_at d.address log)) (turned at false f)) (got_free w s is apart at from (role_heard w bytes) f) fair (inr tt) a

  -- ---- a Turn

  -- a Turn of the slave begins its next piece
  turn_piece : (at : Address) (rest log : List LogEntry) (x : ForeignState) (left : List Piece) (allowed : AreAllowed d x left) (es : List DecidedRequest) → SoFar log x left allowed es
      → Turn at ∷ entries_of d.address rest ≡ cut_entries d.address left → same at (w.slave s) ≡ true → MasterAlone w log → Fair (Turn at) log → Speaks log x es [] → At rest (Turn at ∷ log)
  turn_piece at rest log x [] allowed es so cut f alone fair c = absurd (none_left _ _ cut)
  turn_piece at rest log x (Rests ∷ left) allowed es so cut f alone fair c = absurd (turn_idle at d.address (heads (Turn at) (Idle d.address) (entries_of d.address rest) (cut_entries d.address left) cut).0)
  turn_piece at rest log x (Acts (Gram g b) sent ∷ left) allowed es so cut f alone fair c = absurd (got_turn d.address g at b (sym (heads (Turn at) (Got d.address g b) (entries_of d.address rest) (sent_by d.address sent ++ cut_entries d.address left) cut).0))
  turn_piece at rest log x (Acts Tick sent ∷ left) allowed es so cut f alone fair c =
      let z = heads (Turn at) (Turn d.address) (entries_of d.address rest) (sent_by d.address sent ++ cut_entries d.address left) cut in
      let e : LogEntry = Turn at in
      let mv : move w s e ≡ Turns = ap (λ (b : Bool). if b then Turns else Other) f in
      let M : Move → Type 0 = λ m. SlaveMay m [] in
      record {
        x = allowed.0;
        left = left;
        allowed = allowed.2;
        owed = sent;
        es = es;
        comes = z.1;
        asks = sends_ask_nothing w rd d x allowed.0 Tick sent allowed.1;
        alone = (inr tt, alone);
        so_far = λ k. ap (λ (m : ℕ). first_served w d m foreign_fresh pieces all) (one_more (length (events_at d.address log)) (length (events_at d.address (e ∷ log))) k (turn_counts (same_address d.address at) (events_at d.address log) (turned at true f)))
            ∙ so (suc k) ∙ append_assoc (first_served w d k allowed.0 left allowed.2) [] es;
        converse = turn_on w rd agree s d e log x allowed.0 es sent alone fair mv (subst M (sym mv) refl) allowed.1 c;
      }

  -- any Turn
  turn_at : (at : Address) (rest log : List LogEntry) → Fair (Turn at) log → At (Turn at ∷ rest) log → At rest (Turn at ∷ log)
  turn_at at rest log fair a = by (same at (w.slave s)) refl
    where
      e : LogEntry
      e = Turn at

      by : (b : Bool) → same at (w.slave s) ≡ b → At rest (e ∷ log)
      by true f =
          let P : Bool → Type 0 = λ b. (if b then e ∷ entries_of d.address rest else entries_of d.address rest) ≡ sent_by d.address a.owed ++ cut_entries d.address a.left in
          let z = nothing_owed d.address e (entries_of d.address rest) (cut_entries d.address a.left) a.owed tt (subst P (sym (here at) ∙ f) a.comes) in
          let C : List Send → Type 0 = λ o. Speaks log a.x a.es o in
          turn_piece at rest log a.x a.left a.allowed a.es a.so_far z.1 f a.alone fair (subst C z.0 a.converse)
      by false f =
          let own : same_address at d.address ≡ false = sym (here at) ∙ f in
          let M : Bool → Type 0 = λ b. Free w s is apart (if b then Turns else Other) in
          away e rest log (ap (λ (b : Bool). if b then e ∷ entries_of d.address rest else entries_of d.address rest) own)
          (ap (λ (b : Bool). length ((if b then Tick ∷ [] else []) ++ events_at d.address log)) (turned at false f)) (subst M (sym f) (other_free w s is apart)) fair (inr tt) a

  -- ---- an Idle

  -- an Idle of the slave is its next piece
  idle_piece : (at : Address) (rest log : List LogEntry) (x : ForeignState) (left : List Piece) (allowed : AreAllowed d x left) (es : List DecidedRequest) → SoFar log x left allowed es
      → Idle at ∷ entries_of d.address rest ≡ cut_entries d.address left → same at (w.slave s) ≡ true → MasterAlone w log → Fair (Idle at) log → Speaks log x es [] → At rest (Idle at ∷ log)
  idle_piece at rest log x [] allowed es so cut f alone fair c = absurd (none_left _ _ cut)
  idle_piece at rest log x (Acts (Gram g b) sent ∷ left) allowed es so cut f alone fair c = absurd (got_idle d.address g at b (sym (heads (Idle at) (Got d.address g b) (entries_of d.address rest) (sent_by d.address sent ++ cut_entries d.address left) cut).0))
  idle_piece at rest log x (Acts Tick sent ∷ left) allowed es so cut f alone fair c = absurd (turn_idle d.address at (sym (heads (Idle at) (Turn d.address) (entries_of d.address rest) (sent_by d.address sent ++ cut_entries d.address left) cut).0))
  idle_piece at rest log x (Rests ∷ left) allowed es so cut f alone fair c =
      let e : LogEntry = Idle at in
      let mv : move w s e ≡ RestsMove = ap (λ (b : Bool). if b then RestsMove else Other) f in
      let M : Move → Type 0 = λ m. SlaveMay m [] in
      let N : Move → List DecidedRequest → Type 0 = λ m served. ServesNote w (accepts w rd d) m (desk served []) (desk served []) in
      record {
        x = x;
        left = left;
        allowed = allowed;
        owed = [];
        es = es;
        comes = (heads (Idle at) (Idle d.address) (entries_of d.address rest) (cut_entries d.address left) cut).1;
        asks = tt;
        alone = (inr tt, alone);
        so_far = so;
        converse = passes w rd agree s d e log x es [] [] alone fair (subst M (sym mv) refl) (λ served. subst (λ m. N m served) (sym mv) (record { served = refl; owes = refl })) c;
      }

  -- any Idle
  idle_at : (at : Address) (rest log : List LogEntry) → Fair (Idle at) log → At (Idle at ∷ rest) log → At rest (Idle at ∷ log)
  idle_at at rest log fair a = by (same at (w.slave s)) refl
    where
      e : LogEntry
      e = Idle at

      by : (b : Bool) → same at (w.slave s) ≡ b → At rest (e ∷ log)
      by true f =
          let P : Bool → Type 0 = λ b. (if b then e ∷ entries_of d.address rest else entries_of d.address rest) ≡ sent_by d.address a.owed ++ cut_entries d.address a.left in
          let z = nothing_owed d.address e (entries_of d.address rest) (cut_entries d.address a.left) a.owed tt (subst P (sym (here at) ∙ f) a.comes) in
          let C : List Send → Type 0 = λ o. Speaks log a.x a.es o in
          idle_piece at rest log a.x a.left a.allowed a.es a.so_far z.1 f a.alone fair (subst C z.0 a.converse)
      by false f =
          let own : same_address at d.address ≡ false = sym (here at) ∙ f in
          let M : Bool → Type 0 = λ b. Free w s is apart (if b then RestsMove else Other) in
          away e rest log (ap (λ (b : Bool). if b then e ∷ entries_of d.address rest else entries_of d.address rest) own) refl (subst M (sym f) (other_free w s is apart)) fair (inr tt) a

  -- ---- all entries

  -- before all entries
  start : (log : List LogEntry) → entries_of d.address log ≡ cut_entries d.address pieces → At log []
  start log cut = record {
    x = foreign_fresh;
    left = pieces;
    allowed = all;
    owed = [];
    es = [];
    comes = cut;
    asks = tt;
    alone = tt;
    so_far = λ k. ap (λ (m : ℕ). first_served w d m foreign_fresh pieces all) (none_yet k) ∙ sym (append-nil (first_served w d k foreign_fresh pieces all));
    converse = inl (record {
      stands = record { pairs = no_pairs; session = refl; kept = λ to. tt };
      known = record { requests = tt; answers = tt; talk = record { taken = inl refl; numbers = tt; owes = refl; decided = inl refl; asked = omega arith; heard = omega arith; first = λ r at. absurd cc } };
    });
  }
    where
      none_yet : (k : ℕ) → 0 + k ≡ k
      none_yet k = omega arith

      no_pairs : Pairs [] []
      no_pairs = tt

  -- at each entry so far
  abbrev pub AllFair : List LogEntry → Type 0
  AllFair [] = Unit {0}
  AllFair (e ∷ log) = Fair e log × AllFair log

  -- any entry
  one : (e : LogEntry) (rest log : List LogEntry) → Fair e log → (end_of_entry e ≡ w.master) ⊎ ((end_of_entry e ≡ w.slave s) ⊎ AsksNothing w e) → At (e ∷ rest) log → At rest (e ∷ log)
  one (Sent from to bytes) rest log fair o a = sent_at from to bytes rest log fair o a
  one (Got at from bytes) rest log fair o a = got_at at from bytes rest log fair a
  one (Idle at) rest log fair o a = idle_at at rest log fair a
  one (Turn at) rest log fair o a = turn_at at rest log fair a

  -- how the slave stands after each front of its log
  pub reach : (log rest : List LogEntry) → entries_of d.address (reverse log ++ rest) ≡ cut_entries d.address pieces → OthersAskNothing w s log → AllFair log → At rest log
  reach [] rest cut o f = start rest cut
  reach (e ∷ log) rest cut o f =
      let P : List LogEntry → Type 0 = λ l. entries_of d.address l ≡ cut_entries d.address pieces in
      let same_log : reverse (e ∷ log) ++ rest ≡ reverse log ++ e ∷ rest = ap (λ (z : List LogEntry). z ++ rest) (reverse-append (e ∷ []) log) ∙ append_assoc (reverse log) (e ∷ []) rest in
      one e rest log f.0 o.0 (reach log (e ∷ rest) (subst P same_log cut) o.1 f.1)

  -- in no event nothing is taken
  nothing_first : (x : ForeignState) (left : List Piece) (allowed : AreAllowed d x left) → first_served w d 0 x left allowed ≡ []
  nothing_first x [] allowed = refl
  nothing_first x (Rests ∷ left) allowed = nothing_first x left allowed
  nothing_first x (Acts event sent ∷ left) allowed = refl

  -- what it has taken in the events so far
  pub has_taken : (rest log : List LogEntry) → (a : At rest log) → first_served w d (length (events_at d.address log)) foreign_fresh pieces all ≡ a.es
  has_taken rest log a = ap (λ (m : ℕ). first_served w d m foreign_fresh pieces all) (no_more (length (events_at d.address log))) ∙ a.so_far 0 ∙ ap (λ (l : List DecidedRequest). l ++ a.es) (nothing_first a.x a.left a.allowed)
    where
      no_more : (k : ℕ) → k ≡ k + 0
      no_more k = omega arith
