-- One entry after the other.
use Rattle.std.proofs.Common.{◌≡◌, ℕ, Bool, true, false, List, [], ◌∷◌, ◌++◌, Some, refl, ap, sym, subst, ◌∙◌, MatchBool}
use Rattle.dcp_types.specs.declared.addresses.Address.{Address}
use Rattle.dcp_ends.specs.declared.entries.LogEntry.{LogEntry}
use Rattle.dcp_ends.specs.declared.entries.LogEntry.TheVariants.{Sent, Got, Idle, Turn}
use Rattle.dcp_ends.specs.Events.{Event, Gram, Tick, Send}
use Rattle.dcp_ends.specs.Logs.{same_address}
use Rattle.slave_desc.specs.declared.descriptions.SlaveDesc.{SlaveDesc}
use Rattle.slave_spec.specs.Foreign.{ForeignState}
use Rattle.slave_spec.specs.Allowed.{end_of_entry, Allowed}
use Rattle.slave_spec.specs.Standpoints.{Standpoint, Between, Within, FromBetween, LeadsOn, Walks, MayEnd, MayGoOn, HasComeTo}
use Rattle.slave_spec.proofs.Walking.{goes_front, other_entry, own_entry, never_begins, come_allowed, come_refused}
use Rattle.conform.specs.declared.answers.BadWhy.TheVariants as whys
use Rattle.conform.specs.declared.followers.Awaited.{Awaited}
use Rattle.conform.specs.declared.followers.Awaited.TheVariants as awaited
use Rattle.conform.specs.declared.followers.Follower.{Follower}
use Rattle.conform.specs.Checks.{bad_why_of}
use Rattle.conform.specs.Following.{IsAtSpot, HasFollowed, IsBreak}
use Rattle.conform.specs.Standing.{StandsBetween, Awaits, StandsWithin, may_end}
use Rattle.conform.proofs.Ending.{stands_goes, stands_waits, StandsOver, stands_over}

-- ---- the description

awaits_desc : (c : Follower) (a : Awaited) (d : SlaveDesc) (x : ForeignState) (event : Event) (gone : List Send) → Awaits c a d x event gone → c.desc.now ≡ d
awaits_desc c awaited.Closed d x event gone h = absurd h
awaits_desc c awaited.Notices d x event gone (y, h, o) = h.desc
awaits_desc c awaited.Message d x event gone (s, y, h, o, one) = h.desc
awaits_desc c (awaited.Answer meaning) d x event gone (from, r, e, t, w) = w.desc
awaits_desc c awaited.Initializing d x event gone (e, w) = w.stands.desc
awaits_desc c awaited.Computing d x event gone (e, w) = w.stands.desc
awaits_desc c (awaited.Data t) d x event gone (s, y, id, h, o, at, goes, data') = h.desc

spot_desc : (c : Follower) (d : SlaveDesc) (spot : Standpoint) → IsAtSpot c d spot → c.desc.now ≡ d
spot_desc c d (Between x) h = h.0.desc
spot_desc c d (Within x event gone) h = awaits_desc c c.awaited d x event gone h

pub followed_desc : (c : Follower) (d : SlaveDesc) (before : List LogEntry) → HasFollowed c d before → c.desc.now ≡ d
followed_desc c d before h = spot_desc c d h.spot h.at_spot

pub place_is : (c : Follower) (d : SlaveDesc) (before : List LogEntry) (a : Address) (b : Bool) → HasFollowed c d before → same_address a c.desc.now.address ≡ b → same_address a d.address ≡ b
place_is c d before a b h e = ap (λ (k : SlaveDesc). same_address a k.address) (sym (followed_desc c d before h)) ∙ e

-- ---- an entry of another end

pub passed_by : (c : Follower) (d : SlaveDesc) (before : List LogEntry) (entry : LogEntry) → same_address (end_of_entry entry) d.address ≡ false → HasFollowed c d before → HasFollowed c d (before ++ entry ∷ [])
passed_by c d before entry o h = record { spot = h.spot; at_spot = h.at_spot; come = other_entry d before entry h.spot o h.come }

-- ---- a Sent

module _ (c new : Follower) (d : SlaveDesc) (before : List LogEntry) (from to : Address) (bytes : List ℕ) (own : same_address from d.address ≡ true) where
  abbrev S : Send
  S = record { to = to; bytes = bytes }

  sends_why : whys.Send ≡ bad_why_of d.address (Some (Sent from to bytes))
  sends_why = rw own refl

  sent_at : (spot : Standpoint) (b : Bool) → IsAtSpot c d spot → HasComeTo d before spot
      → ((x : ForeignState) (event : Event) (gone : List Send) → StandsWithin c d x event gone → MatchBool b (StandsWithin new d x event (gone ++ S ∷ [])) (MayGoOn d (Within x event (gone ++ S ∷ [])) → ⊥))
      → (c.awaited ≡ awaited.Closed → b ≡ false) → MatchBool b (HasFollowed new d (before ++ Sent from to bytes ∷ [])) (IsBreak d before (Sent from to bytes) whys.Send)
  sent_at (Between x) true h come within closed = absurd (cc (closed h.1))
  sent_at (Between x) false h come within closed = record { never = never_begins d before (Sent from to bytes) (Between x) own come (λ more w. w); cause = sends_why }
  sent_at (Within x event gone) true h come within closed =
      let k = within x event gone h in
      record {
        spot = Within x event (gone ++ S ∷ []);
        at_spot = k;
        come = own_entry d before (Sent from to bytes) (Within x event gone) (Within x event (gone ++ S ∷ [])) own come (stands_goes new new.awaited d x event (gone ++ S ∷ []) k)
            (λ more w. w) (λ more w. w) (λ more w. w) (λ more w. w);
      }
  sent_at (Within x event gone) false h come within closed =
      let k = within x event gone h in
      record { never = never_begins d before (Sent from to bytes) (Within x event gone) own come (λ more w. k (goes_front d more (Within x event (gone ++ S ∷ [])) w)); cause = sends_why }

  pub sent_followed : (b : Bool) → HasFollowed c d before
      → ((x : ForeignState) (event : Event) (gone : List Send) → StandsWithin c d x event gone → MatchBool b (StandsWithin new d x event (gone ++ S ∷ [])) (MayGoOn d (Within x event (gone ++ S ∷ [])) → ⊥))
      → (c.awaited ≡ awaited.Closed → b ≡ false) → MatchBool b (HasFollowed new d (before ++ Sent from to bytes ∷ [])) (IsBreak d before (Sent from to bytes) whys.Send)
  sent_followed b h within closed = sent_at h.spot b h.at_spot h.come within closed

-- ---- the other entries

abbrev is_sent : LogEntry → Bool
is_sent (Sent from to bytes) = true
is_sent entry = false

module _ (c : Follower) (d : SlaveDesc) where
  -- where the slave stands once its event is over
  record IsOverAt (spot : Standpoint) : Type 0 where
    pub y : ForeignState
    pub stands : StandsBetween c d y
    pub ends : (entry : LogEntry) → is_sent entry ≡ false → (more : List LogEntry) → LeadsOn d spot entry (λ s. Walks d (MayEnd d) more s) → FromBetween y entry (λ s. Walks d (MayEnd d) more s)
    pub ends_back : (entry : LogEntry) → is_sent entry ≡ false → (more : List LogEntry) → FromBetween y entry (λ s. Walks d (MayEnd d) more s) → LeadsOn d spot entry (λ s. Walks d (MayEnd d) more s)
    pub goes : (entry : LogEntry) → is_sent entry ≡ false → (more : List LogEntry) → LeadsOn d spot entry (λ s. Walks d (MayGoOn d) more s) → FromBetween y entry (λ s. Walks d (MayGoOn d) more s)
    pub goes_back : (entry : LogEntry) → is_sent entry ≡ false → (more : List LogEntry) → FromBetween y entry (λ s. Walks d (MayGoOn d) more s) → LeadsOn d spot entry (λ s. Walks d (MayGoOn d) more s)
    pub over : MayEnd d spot

  lead_on : (K : Standpoint → Type 0) (x : ForeignState) (event : Event) (gone : List Send) (o : StandsOver c d x event gone) (entry : LogEntry) → is_sent entry ≡ false
      → LeadsOn d (Within x event gone) entry K → FromBetween o.y entry K
  lead_on K x event gone o (Sent from to bytes) e h = absurd cc
  lead_on K x event gone o (Got at from bytes) e (z, may, h) = subst (λ (y : ForeignState). K (Within y (Gram from bytes) [])) (o.only z may) h
  lead_on K x event gone o (Idle at) e (z, may, h) = subst (λ (y : ForeignState). K (Between y)) (o.only z may) h
  lead_on K x event gone o (Turn at) e (z, may, h) = subst (λ (y : ForeignState). K (Within y Tick [])) (o.only z may) h

  lead_back : (K : Standpoint → Type 0) (x : ForeignState) (event : Event) (gone : List Send) (o : StandsOver c d x event gone) (entry : LogEntry) → is_sent entry ≡ false
      → FromBetween o.y entry K → LeadsOn d (Within x event gone) entry K
  lead_back K x event gone o (Sent from to bytes) e h = absurd cc
  lead_back K x event gone o (Got at from bytes) e h = (o.y, o.may, h)
  lead_back K x event gone o (Idle at) e h = (o.y, o.may, h)
  lead_back K x event gone o (Turn at) e h = (o.y, o.may, h)

  over_at : (spot : Standpoint) → IsAtSpot c d spot → may_end c.awaited ≡ true → IsOverAt spot
  over_at (Between x) h m = record { y = x; stands = h.0; ends = λ entry e more w. w; ends_back = λ entry e more w. w; goes = λ entry e more w. w; goes_back = λ entry e more w. w; over = tt }
  over_at (Within x event gone) h m =
      let o = stands_over c c.awaited d x event gone m h in
      record {
        y = o.y;
        stands = o.stands;
        ends = λ entry e more w. lead_on (λ s. Walks d (MayEnd d) more s) x event gone o entry e w;
        ends_back = λ entry e more w. lead_back (λ s. Walks d (MayEnd d) more s) x event gone o entry e w;
        goes = λ entry e more w. lead_on (λ s. Walks d (MayGoOn d) more s) x event gone o entry e w;
        goes_back = λ entry e more w. lead_back (λ s. Walks d (MayGoOn d) more s) x event gone o entry e w;
        over = (o.y, o.may);
      }

  pub may_be_over : (before : List LogEntry) → HasFollowed c d before → may_end c.awaited ≡ true → Allowed d before
  may_be_over before h m = come_allowed d before h.spot h.come (over_at h.spot h.at_spot m).over

  not_over : (spot : Standpoint) → IsAtSpot c d spot → may_end c.awaited ≡ false → MayEnd d spot → ⊥
  not_over (Between x) h m e = absurd (cc (m, ap may_end h.1))
  not_over (Within x event gone) h m (z, may) = stands_waits c c.awaited d x event gone m h z may

  pub is_not_over : (before : List LogEntry) → HasFollowed c d before → may_end c.awaited ≡ false → Allowed d before → ⊥
  is_not_over before h m = come_refused d before h.spot h.come (not_over h.spot h.at_spot m)

  stuck : (K : Standpoint → Type 0) (spot : Standpoint) (entry : LogEntry) → is_sent entry ≡ false → IsAtSpot c d spot → may_end c.awaited ≡ false → LeadsOn d spot entry K → ⊥
  stuck K (Between x) entry e h m w = absurd (cc (m, ap may_end h.1))
  stuck K (Within x event gone) (Sent from to bytes) e h m w = absurd cc
  stuck K (Within x event gone) (Got at from bytes) e h m (z, may, w) = stands_waits c c.awaited d x event gone m h z may
  stuck K (Within x event gone) (Idle at) e h m (z, may, w) = stands_waits c c.awaited d x event gone m h z may
  stuck K (Within x event gone) (Turn at) e h m (z, may, w) = stands_waits c c.awaited d x event gone m h z may

  missing_why : (entry : LogEntry) → is_sent entry ≡ false → whys.Missing ≡ bad_why_of d.address (Some entry)
  missing_why (Sent from to bytes) e = absurd cc
  missing_why (Got at from bytes) e = refl
  missing_why (Idle at) e = refl
  missing_why (Turn at) e = refl

  -- its event is not over
  pub is_missing : (before : List LogEntry) (entry : LogEntry) → is_sent entry ≡ false → same_address (end_of_entry entry) d.address ≡ true → HasFollowed c d before → may_end c.awaited ≡ false
      → IsBreak d before entry whys.Missing
  is_missing before entry e own h m = record {
    never = never_begins d before entry h.spot own h.come (λ more w. stuck (λ s. Walks d (MayGoOn d) more s) h.spot entry e h.at_spot m w);
    cause = missing_why entry e;
  }

  module _ (new : Follower) (before : List LogEntry) (at : Address) (own : same_address at d.address ≡ true) (h : HasFollowed c d before) (m : may_end c.awaited ≡ true) where
    pub got_followed : (from : Address) (bytes : List ℕ) → ((x : ForeignState) → StandsBetween c d x → StandsWithin new d x (Gram from bytes) []) → HasFollowed new d (before ++ Got at from bytes ∷ [])
    got_followed from bytes f =
        let o = over_at h.spot h.at_spot m in
        let k = f o.y o.stands in
        let e : LogEntry = Got at from bytes in
        record {
          spot = Within o.y (Gram from bytes) [];
          at_spot = k;
          come = own_entry d before e h.spot (Within o.y (Gram from bytes) []) own h.come (stands_goes new new.awaited d o.y (Gram from bytes) [] k) (o.ends e refl) (o.ends_back e refl) (o.goes e refl) (o.goes_back e refl);
        }

    pub turn_followed : ((x : ForeignState) → StandsBetween c d x → StandsWithin new d x Tick []) → HasFollowed new d (before ++ Turn at ∷ [])
    turn_followed f =
        let o = over_at h.spot h.at_spot m in
        let k = f o.y o.stands in
        let e : LogEntry = Turn at in
        record {
          spot = Within o.y Tick [];
          at_spot = k;
          come = own_entry d before e h.spot (Within o.y Tick []) own h.come (stands_goes new new.awaited d o.y Tick [] k) (o.ends e refl) (o.ends_back e refl) (o.goes e refl) (o.goes_back e refl);
        }

    pub idle_followed : new ≡ record c { awaited = awaited.Closed } → HasFollowed new d (before ++ Idle at ∷ [])
    idle_followed same =
        let o = over_at h.spot h.at_spot m in
        let e : LogEntry = Idle at in
        let s = o.stands in
        record {
          spot = Between o.y;
          at_spot = (subst (λ (w : Follower). StandsBetween w d o.y) (sym same) (record { desc = s.desc; session = s.session; number = s.number; newest = s.newest; quiet = s.quiet; inner = s.inner }), ap (λ (w : Follower). w.awaited) same);
          come = own_entry d before e h.spot (Between o.y) own h.come tt (o.ends e refl) (o.ends_back e refl) (o.goes e refl) (o.goes_back e refl);
        }
