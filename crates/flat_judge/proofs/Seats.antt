-- A session after one more line of the script, and all sessions after an entry.
use Rattle.std.proofs.Common.{◌≡◌, ◌≢◌, ℕ, suc, ◌+◌, ◌<◌, ◌≤◌, Bool, true, false, cond, ◌==◌, nat_lt, nat_le, List, [], ◌∷◌, ◌++◌, length}
use Rattle.std.proofs.Common.{length-append, take, drop, get_or, set, refl, sym, ap, ◌∙◌, subst, arith, Some, None, slice_get, get_or-set_other}
use Rattle.std.proofs.Common.{get_or-set_same}
use Rattle.std.specs.List.{list_all}
use Rattle.std.proofs.lemmas.Bool.{eq-eqb, eqb-true}
use Rattle.std.proofs.lemmas.Bool.Decides.{nat_tests}
use Rattle.std.proofs.lemmas.Grind.{common_steps}
use Rattle.std.proofs.Math.Seq.{get_or-append_seam}
use Rattle.std.proofs.lemmas.List.{get_or_append_left, length-set, take_all}
use Rattle.flat_base.specs.declared.ids.Actor.{Actor}
use Rattle.flat_base.specs.declared.ids.Actor.TheVariants.{Display, Session, Probe}
use Rattle.flat_base.specs.declared.ids.SessionNo.{SessionNo}
use Rattle.flat_scene.specs.declared.calls.Call.{Call}
use Rattle.flat_scene.specs.declared.journal.Entry.{Entry}
use Rattle.flat_scene.specs.declared.journal.EntryKind.{EntryKind}
use Rattle.flat_scene.specs.declared.journal.EntryKind.TheVariants.{Begin, Finish, End, Hit}
use Rattle.flat_scene.specs.declared.journal.Reply.{Reply}
use Rattle.flat_scene.specs.declared.journal.Reply.TheVariants.{Done}
use Rattle.flat_scene.specs.declared.script.LineBody.{LineBody}
use Rattle.flat_scene.specs.declared.script.LineBody.TheVariants as body
use Rattle.flat_scene.specs.declared.script.SessionLine.{SessionLine}
use Rattle.flat_scene.specs.declared.script.ScriptLine.{ScriptLine}
use Rattle.flat_scene.specs.declared.setup.Setup.{Setup}
use Rattle.flat_scene.specs.History.{◌▹◌, own, is_session}
use Rattle.flat_scene.specs.Journals.{seat_number}
use Rattle.flat_scene.specs.Interleave.{IsReading, session_lines}
use Rattle.flat_scene.specs.Setups.{is_declared}
use Rattle.flat_core.specs.Machines.{Machine, HasShare, entered, entry_of, made}
use Rattle.flat_places.specs.declared.script.Script.{Script}
use Rattle.flat_playable.specs.Playable.{is_playable, is_played}
use Rattle.flat_session.specs.declared.session_reader.SessionReader.{SessionReader}
use Rattle.flat_session.specs.Readings.{EndsAreRead, HasRead, NoneIsRead, OneMoreIsRead, Rise}
use Rattle.flat_session.specs.Reads.{IsNew, Reads, Stands}
use Rattle.flat_play.specs.Playing.{ReaderStands, lines_by, session_text, shares_of}
use Rattle.flat_play.proofs.lemmas.Growing.{Grows, is_quiet}
use Rattle.flat_play.proofs.lemmas.Places.{Here, counted, few_lines, rises}
use Rattle.flat_base.proofs.lemmas.Tests.{all-at}
use Rattle.flat_play.proofs.lemmas.PlaySteps.{below_declared, has_room}
use Rattle.flat_play.proofs.lemmas.Readers.{new_stands, on_board, reader_grows, reader_more, session_rise}
use Rattle.flat_play.proofs.lemmas.Steps.{At, Step, reader_other}
use Rattle.flat_judge.specs.declared.session_cursor.SessionCursor.{SessionCursor}
use Rattle.flat_judge.specs.GuidedRuns.{Goes, IsAt, Sits, SitsBy, SeatsStand, is_aside, own_text}

-- ---- room

pub lines_left : (script : Script) (place : ℕ) (x : ScriptLine) → At script place x → (seat : ℕ)
    → lines_by seat (drop place script.lines) ≡ lines_by seat (drop (place + 1) script.lines) + cond (seat_number x.actor == seat) 1 0
lines_left script place x at seat = ap (lines_by seat) at.left ∙ grind (arith, common_steps)

pub made_one : (seat : ℕ) (h : List Entry) (e : Entry) → made seat (h ▹ e) ≡ made seat h + cond (seat_number e.actor == seat) 1 0
made_one seat h e = grind (arith, common_steps)

-- a session that hasn't ended may make one entry more
pub share : (script : Script) (s : SessionNo) (m : Machine) (seat : SessionCursor) → m.shares ≡ shares_of script → is_declared script.setup s ≡ true
    → IsAt script s m.history seat → HasShare m (Session s)
share script s m seat shares declared at =
    let within = below_declared script.setup s declared in
    let few : made s.0 m.history ≤ lines_by s.0 script.lines = let spent = at.spent in omega arith in
    has_room script m s.0 within.0 within.1 shares few

-- ---- a line

-- the line of another actor
pub passed : (script : Script) (s : SessionNo) (history : List Entry) (seat next : SessionCursor) (x : ScriptLine) → At script seat.place x
    → is_session s x.actor ≡ false → seat.place < length script.lines
    → next ≡ record seat { place = seat.place + 1 } → IsAt script s history seat → IsAt script s history next
passed script s history seat next x at other below is sits =
    let P : SessionCursor → Type 0 = IsAt script s history in
    let left = lines_left script seat.place x at s.0 in
    let spent = sits.spent in
    subst P (sym is) (record {
      within = omega (arith, below);
      stands = reader_other script seat.place x at s other history history seat.reader (Step.same refl) sits.stands;
      spent = omega (arith, left, spent);
    })

quiet_aside : (kind : EntryKind) → is_quiet kind ≡ true → is_aside kind ≡ true
quiet_aside (Begin time) quiet = absurd (cc)
quiet_aside Finish quiet = absurd (cc)
quiet_aside (Hit x y) quiet = absurd (cc)
quiet_aside _ quiet = refl

same_seat : (s : ℕ) → ◌≡◌ {A = ℕ} (cond (s == s) 1 0) 1
same_seat s = ap (λ b. cond b 1 0) (eq-eqb s s refl)

-- a board that grows by a session's line has one entry more of the session at most
made_grown : (s : SessionNo) (number : ℕ) (old new : Machine) → Grows old new (Session s) number → made s.0 new.history ≤ made s.0 old.history + 1
made_grown s number old new (Grows.stays is) = let same : made s.0 new.history ≡ made s.0 old.history =
    ap (λ (m : Machine). made s.0 m.history) is in omega (arith, same)
made_grown s number old new (Grows.grows carries kind reply calm is) =
    let e : Entry = entry_of (Session s) number carries kind reply in
    let more : made s.0 new.history ≡ made s.0 old.history + cond (s.0 == s.0) 1 0 = ap (λ (m : Machine). made s.0 m.history) is ∙ made_one s.0 old.history e in
    let one = same_seat s.0 in
    omega (arith, more, one)

not_less : (n : ℕ) → nat_lt n n ≡ false
not_less n = grind (arith, nat_tests)

less_more : (n : ℕ) → nat_lt n (suc n) ≡ true
less_more n = grind (arith, nat_tests)

-- whether it has one is guided by how many there are
pub goes_by : (s : SessionNo) (number : ℕ) (old new : Machine) (made_it : Bool) → made_it ≡ nat_lt (length old.history) (length new.history)
    → Grows old new (Session s) number → Goes (Session s) old new made_it
goes_by s number old new made_it is (Grows.stays same) =
    let none : made_it ≡ false = is ∙ ap (λ (m : Machine). nat_lt (length old.history) (length m.history)) same ∙ not_less (length old.history) in
    let G : Bool → Type 0 = Goes (Session s) old new in
    subst G (sym none) (Goes.stays same)
goes_by s number old new made_it is (Grows.grows carries kind reply calm grown) =
    let one : made_it ≡ true = is ∙ ap (λ (m : Machine). nat_lt (length old.history) (length m.history)) grown ∙ less_more (length old.history) in
    let G : Bool → Type 0 = Goes (Session s) old new in
    subst G (sym one) (Goes.enters number carries kind reply (quiet_aside kind calm) grown)

-- the session's own line
module _ (script : Script) (s : SessionNo) (number : ℕ) (text : SessionLine) (reply : Reply) (old new : Machine) (seat : SessionCursor) (after : SessionReader)
    (setup : old.setup ≡ script.setup) (here : Here script s seat.place number text)
    (sits : IsAt script s old.history seat) (reads : Reads number text reply old new seat.reader after seat.reader.closed) where
  pub read_grows : Grows old new (Session s) number
  read_grows = reader_grows script s seat.place number text here reply old new seat.reader after setup sits.stands reads

  pub read_on : OneMoreIsRead → Stands new.setup (own seat.reader.session new.history) after
      → At script seat.place (record { number = number; actor = Session s; body = body.Session text }) → seat.place < length script.lines
      → (next : SessionCursor) → next.place ≡ seat.place + 1 → next.reader ≡ after → IsAt script s new.history next
  read_on one_more stands_then at below next place reader =
      let then = reader_more script s seat.place number text here reply old new seat.reader after setup sits.stands reads one_more stands_then in
      let P : ℕ → SessionReader → Type 0 = λ n r. ReaderStands script s n new.history r in
      let P1 : SessionReader → Type 0 = P (seat.place + 1) in
      let P2 : ℕ → Type 0 = λ n. P n next.reader in
      let left = lines_left script seat.place (record { number = number; actor = Session s; body = body.Session text }) at s.0 in
      let one = same_seat s.0 in
      let more = made_grown s number old new read_grows in
      let spent = sits.spent in
      let next_left : lines_by s.0 (drop next.place script.lines) ≡ lines_by s.0 (drop (seat.place + 1) script.lines) =
      ap (λ (n : ℕ). lines_by s.0 (drop n script.lines)) place in
      record {
        within = omega (arith, below, place);
        stands = subst P2 (sym place) (subst P1 (sym reader) then);
        spent = omega (arith, left, one, more, spent, next_left);
      }

-- ---- the End

module _ (ends_are_read : EndsAreRead) (script : Script) (playable : is_playable script ≡ true) (s : SessionNo) (m : Machine) (seat : SessionCursor)
    (setup : m.setup ≡ script.setup) (place : seat.place ≡ length script.lines) (sits : IsAt script s m.history seat) where
  at_end : ReaderStands script s (length script.lines) m.history seat.reader
  at_end = let P : ℕ → Type 0 = λ n. ReaderStands script s n m.history seat.reader in subst P place sits.stands

  pub end_share : m.shares ≡ shares_of script → is_declared script.setup s ≡ true → HasShare m (Session seat.reader.session)
  end_share shares declared = let P : SessionNo → Type 0 =
      λ n. HasShare m (Session n) in subst P (sym at_end.session) (share script s m seat shares declared sits)

  pub end_stands : Stands m.setup (own seat.reader.session m.history) seat.reader
  end_stands = on_board script.setup s m seat.reader setup at_end.session (λ setup es r. Stands setup es r) at_end.stands

  pub end_read : (new : Machine) → new ≡ entered m (Session seat.reader.session) (script.count + 1) seat.reader.pending (End seat.reader.refused) Done
      → IsReading script.setup script.count (session_lines s script.lines) (own s new.history)
  end_read new is =
      let given : List (ℕ × SessionLine) = session_lines s (take (length script.lines) script.lines) in
      let all : given ≡ session_lines s script.lines = ap (session_lines s) (take_all (length script.lines) script.lines (omega arith)) in
      let R : List (ℕ × SessionLine) → Type 0 = Rise 0 in
      let rise : Rise 0 given = subst R (sym all) (session_rise s 0 script.lines (rises script playable)) in
      let has : HasRead m.setup given (own seat.reader.session m.history) seat.reader =
      on_board script.setup s m seat.reader setup at_end.session (λ setup es r. HasRead setup given es r) at_end.reads in
      let then : Machine = entered m (Session seat.reader.session) (script.count + 1) seat.reader.pending (End seat.reader.refused) Done in
      let I : Setup → List (ℕ × SessionLine) → SessionNo → Type 0 = λ setup lines n. IsReading setup script.count lines (own n then.history) in
      let I1 : Setup → Type 0 = λ setup. I setup given seat.reader.session in
      let I2 : List (ℕ × SessionLine) → Type 0 = λ lines. I script.setup lines seat.reader.session in
      let I3 : SessionNo → Type 0 = I script.setup (session_lines s script.lines) in
      let I4 : Machine → Type 0 = λ n. IsReading script.setup script.count (session_lines s script.lines) (own s n.history) in
      subst I4 (sym is) (subst I3 at_end.session (subst I2 all (subst I1 setup (ends_are_read given script.count m seat.reader end_stands has rise))))

  pub end_goes : (new : Machine) → new ≡ entered m (Session seat.reader.session) (script.count + 1) seat.reader.pending (End seat.reader.refused) Done
      → Goes (Session s) m new true
  end_goes new is =
      let by : SessionNo → Machine = λ n. entered m (Session n) (script.count + 1) seat.reader.pending (End seat.reader.refused) Done in
      Goes.enters (script.count + 1) seat.reader.pending (End seat.reader.refused) Done refl (is ∙ ap by at_end.session)

-- ---- all sessions

-- what a session sits by is its own entries
kept : (script : Script) (s : SessionNo) (old new : List Entry) (seat : SessionCursor) (ended : Bool) → own s new ≡ own s old → made s.0 new ≡ made s.0 old
    → SitsBy script s old seat ended → SitsBy script s new seat ended
kept script s old new seat true same many sits = let P : List Entry → Type 0 =
    IsReading script.setup script.count (session_lines s script.lines) in subst P (sym same) sits
kept script s old new seat false same many sits =
    let S : List Entry → Type 0 = λ es. Stands script.setup es seat.reader in
    let H : List Entry → Type 0 = λ es. HasRead script.setup (session_lines s (take seat.place script.lines)) es seat.reader in
    let spent = sits.spent in
    record {
      within = sits.within;
      stands = record {
        session = sits.stands.session;
        few = sits.stands.few;
        stands = subst S (sym same) sits.stands.stands;
        reads = subst H (sym same) sits.stands.reads;
      };
      spent = omega (arith, many, spent);
    }

-- an entry of somebody else
module _ (script : Script) (t : SessionNo) (old new : Machine) (who : Actor) (other : (seat_number who == t.0) ≡ false) (apart : is_session t who ≡ false) where
  none_made : ◌≡◌ {A = ℕ} (cond (seat_number who == t.0) 1 0) 0
  none_made = ap (λ b. cond b 1 0) other

  pub sits_beside : (number : ℕ) (carries : List Call) (kind : EntryKind) (reply : Reply) → new ≡ entered old who number carries kind reply
      → (seat : SessionCursor)
      → Sits script t old.history seat → Sits script t new.history seat
  sits_beside number carries kind reply is seat sits =
      let e : Entry = entry_of who number carries kind reply in
      let mine : own t (old.history ▹ e) ≡ own t old.history = rw apart refl in
      let many : made t.0 (old.history ▹ e) ≡ made t.0 old.history =
      (let more = made_one t.0 old.history e in let none = none_made in omega (arith, more, none)) in
      kept script t old.history new.history seat seat.has_ended (ap (λ (m : Machine). own t m.history) is ∙ mine)
      (ap (λ (m : Machine). made t.0 m.history) is ∙ many) sits

-- an entry of the display
pub seats_display : (script : Script) (old new : Machine) (number : ℕ) (carries : List Call) (kind : EntryKind) (reply : Reply) (seats : List SessionCursor)
    → new ≡ entered old Display number carries kind reply → SeatsStand script old.history seats → SeatsStand script new.history seats
seats_display script old new number carries kind reply seats is stand = record {
  count = stand.count;
  each = λ k d within. sits_beside script (record { 0 = k + 1 }) old new Display (apart k) refl number carries kind reply is (get_or seats k d)
      (stand.each k d within);
}
  where
    apart : (k : ℕ) → (0 == k + 1) ≡ false
    apart k = grind (arith, nat_tests)

-- an entry of a session, whose seat is set
pub seats_set : (script : Script) (k : ℕ) (old new : Machine) (seats : List SessionCursor) (seat : SessionCursor) → k < length seats
    → Goes (Session (record { 0 = k + 1 })) old new true → Sits script (record { 0 = k + 1 }) new.history seat
    → SeatsStand script old.history seats → SeatsStand script new.history (set seats k seat)
seats_set script k old new seats seat within (Goes.enters number carries kind reply aside is) sits stand = record {
  count = length-set seats k seat ∙ stand.count;
  each = λ j d inside. by_place j d (omega (arith, inside, length-set seats k seat)) (k + 1 == j + 1) refl;
}
  where
    same_number : (j : ℕ) → (k + 1 == j + 1) ≡ true → j ≡ k
    same_number j hits = grind (arith, nat_tests)

    by_place : (j : ℕ) (d : SessionCursor) → j < length seats → (b : Bool) → (k + 1 == j + 1) ≡ b
        → Sits script (record { 0 = j + 1 }) new.history (get_or (set seats k seat) j d)
    by_place j d inside true hits =
        let here = same_number j hits in
        let P : ℕ → Type 0 = λ n. Sits script (record { 0 = n + 1 }) new.history (get_or (set seats k seat) n d) in
        let Q : SessionCursor → Type 0 = λ p. Sits script (record { 0 = k + 1 }) new.history p in
        let found : get_or (set seats k seat) k d ≡ seat = rw get_or-set_same refl in
        subst P (sym here) (subst Q (sym found) sits)
    by_place j d inside false no_one =
        let other : j ≢ k = (λ same. let hits : (k + 1 == j + 1) ≡ true = eq-eqb (k + 1) (j + 1) (omega arith) in let both : true ≡ false = sym hits ∙ no_one in
        cc) in
        rw get_or-set_other (sits_beside script (record { 0 = j + 1 }) old new (Session (record { 0 = k + 1 })) no_one no_one number carries kind reply is
        (get_or seats j d) (stand.each j d inside))

-- ---- before any line

pub new_sits : NoneIsRead → (script : Script) (s : SessionNo) (reader : SessionReader) → IsNew script.setup s reader
    → Sits script s [] (record { reader = reader; place = 0; has_ended = false })
new_sits none script s reader new = record {
  within = omega arith;
  stands = new_stands none script s reader new;
  spent = omega arith;
}

-- So many sessions sit that have read no line.
pub record SeatsTo (script : Script) (n : ℕ) (seats : List SessionCursor) : Type 0 where
  pub count : length seats ≡ n
  pub each : (k : ℕ) (d : SessionCursor) → k < length seats → Sits script (record { 0 = k + 1 }) [] (get_or seats k d)

pub seats_more : (script : Script) (n : ℕ) (seats : List SessionCursor) (seat : SessionCursor) → SeatsTo script n seats
    → Sits script (record { 0 = n + 1 }) [] seat
    → SeatsTo script (n + 1) (seats ++ seat ∷ [])
seats_more script n seats seat are new = record {
  count = length-append seats (seat ∷ []) ∙ ap (λ m. m + 1) are.count;
  each = λ k d within. by k d within (nat_lt k (length seats)) refl;
}
  where
    by : (k : ℕ) (d : SessionCursor) → k < length (seats ++ seat ∷ []) → (b : Bool) → nat_lt k (length seats) ≡ b
        → Sits script (record { 0 = k + 1 }) [] (get_or (seats ++ seat ∷ []) k d)
    by k d within true is =
        let less : k < length seats = grind (arith, nat_tests) in
        let P : SessionCursor → Type 0 = Sits script (record { 0 = k + 1 }) [] in
        subst P (sym (get_or_append_left seats (seat ∷ []) d k less)) (are.each k d less)
    by k d within false is =
        let upto : length seats ≤ k = grind (arith, nat_tests) in
        let many = are.count in
        let last : length seats ≡ k = omega (arith, upto, within, length-append seats (seat ∷ [])) in
        let P : SessionCursor → Type 0 = Sits script (record { 0 = length seats + 1 }) [] in
        let N : ℕ → Type 0 = λ m. Sits script (record { 0 = m + 1 }) [] (get_or (seats ++ seat ∷ []) m d) in
        let M : ℕ → Type 0 = λ m. Sits script (record { 0 = m + 1 }) [] seat in
        subst N last (subst P (sym (get_or-append_seam seats seat [] d)) (subst M (sym many) new))

pub seats_all : (script : Script) (n : ℕ) (seats : List SessionCursor) → n ≡ script.setup.sessions → SeatsTo script n seats → SeatsStand script [] seats
seats_all script n seats is are = record { count = are.count ∙ is; each = are.each }

-- ---- whose line it is

none-some : {A : Type 0} (x : A) → None ≡ Some x → ⊥
none-some x is = cc

said_is : (what : LineBody) (text : SessionLine) → session_text what ≡ Some text → what ≡ body.Session text
said_is (body.Session said) text is = let same : said ≡ text = cc in ap body.Session same
said_is (body.Display said) text is = absurd (none-some text is)
said_is (body.Probe asked) text is = absurd (none-some text is)

-- What is known of a line that is one of a session.
pub record IsOwn (s : SessionNo) (who : Actor) (what : LineBody) (text : SessionLine) : Type 0 where
  pub who_is : who ≡ Session s
  pub what_is : what ≡ body.Session text

pub own_is : (s : SessionNo) (who : Actor) (what : LineBody) (text : SessionLine) → own_text s who what ≡ Some text → IsOwn s who what text
own_is s Display what text is = absurd (none-some text is)
own_is s (Probe p) what text is = absurd (none-some text is)
own_is s (Session t) what text is = by (t.0 == s.0) refl is
  where
    by : (b : Bool) → (t.0 == s.0) ≡ b → cond b (session_text what) None ≡ Some text → IsOwn s (Session t) what text
    by true same said = let number : t.0 ≡ s.0 = eqb-true t.0 s.0 same in
        record { who_is = ap (λ (n : ℕ). Session (record { 0 = n })) number; what_is = said_is what text said }
    by false same said = absurd (none-some text said)

pub other_is : (setup : Setup) (s : SessionNo) (who : Actor) (what : LineBody) → own_text s who what ≡ None → is_played setup who what ≡ true
    → is_session s who ≡ false
other_is setup s Display what is played = refl
other_is setup s (Probe p) what is played = refl
other_is setup s (Session t) what is played = by (t.0 == s.0) refl is what refl
  where
    by : (b : Bool) → (t.0 == s.0) ≡ b → cond b (session_text what) None ≡ None → (said : LineBody) → what ≡ said → (t.0 == s.0) ≡ false
    by false same none said is = same
    by true same none (body.Session text) is = absurd (none-some text (sym none ∙ ap session_text is))
    by true same none (body.Display text) is = absurd (let wrong : false ≡ true = ap (is_played setup (Session t)) (sym is) ∙ played in cc)
    by true same none (body.Probe asked) is = absurd (let wrong : false ≡ true = ap (is_played setup (Session t)) (sym is) ∙ played in cc)

pub own_at : (script : Script) (place : ℕ) (x : ScriptLine) (s : SessionNo) (text : SessionLine) → slice_get script.lines place ≡ Some x
    → IsOwn s x.actor x.body text
    → slice_get script.lines place ≡ Some (record { number = x.number; actor = Session s; body = body.Session text })
own_at script place x s text at own = at ∙ (λ i. Some (record { number = x.number; actor = own.who_is i; body = own.what_is i }))

-- the number of a line is small
pub number_low : (script : Script) (place : ℕ) (x : ScriptLine) → is_playable script ≡ true → At script place x → x.number ≤ 16777216
number_low script place x playable at =
    let all : list_all (λ (next : ScriptLine). nat_le next.number script.count) (take place script.lines ++ x ∷ drop (place + 1) script.lines) ≡ true =
    ap (list_all (λ (next : ScriptLine). nat_le next.number script.count)) (sym at.split) ∙ counted script playable in
    let here : nat_le x.number script.count ≡ true = all-at (λ (next : ScriptLine). nat_le next.number script.count) (take place script.lines) x
    (drop (place + 1) script.lines) all in
    let limit : nat_le script.count 16777216 ≡ true = few_lines script playable in
    let low : x.number ≤ script.count = grind (arith, nat_tests) in
    let most : script.count ≤ 16777216 = grind (arith, nat_tests) in
    omega (arith, low, most)

-- a board that doesn't go on stays
pub stays_of : (who : Actor) (old new : Machine) → Goes who old new false → new ≡ old
stays_of who old new (Goes.stays is) = is
