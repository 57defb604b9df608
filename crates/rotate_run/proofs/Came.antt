-- How far a rotation came, however it ended.
use Rattle.std.proofs.Common.{◌≡◌, ◌≢◌, ◌↔◌, ℕ, zero, suc, ◌+◌, ◌*◌, ◌<◌, ◌≤◌, Bool, true, false, List, [], ◌∷◌, ◌++◌, length, take, Option, Some, None, IfSome, Result, Ok, Err, refl, sym, ap, ◌∙◌, subst, ⊎_elim, arith, append_assoc, append-nil, length-append}
use Rattle.std.proofs.lemmas.Bool.{cases_lt}
use Rattle.std.proofs.Math.Nat.{mul-le-mul_right}
use Rattle.chunk_core.specs.Lists.{IsAmong}
use Rattle.chunk_core.specs.Lists.IsAmong.{here}
use Rattle.chunk_core.specs.Outcomes.{End, Done, Fault, Cut}
use Rattle.chunk_core.specs.declared.code.Code.TheVariants as code
use Rattle.chunk_core.specs.declared.code.Exit.{Exit}
use Rattle.chunk_core.specs.declared.code.How.{How}
use Rattle.chunk_core.specs.declared.code.How.TheVariants as how
use Rattle.chunk_core.proofs.Members.{among_cons, among_nil}
use Rattle.device_port.specs.Device.{DeviceTold}
use Rattle.device_port.specs.Depot.{DepotTold, content_at}
use Rattle.pull_turns.specs.Led.{end_of}
use Rattle.pull_stepper.specs.Held.{closed_as}
use Rattle.scope_tree.specs.Calls.{Seen}
use Rattle.hot_swap.specs.declared.swap.Held.{Held}
use Rattle.rotate_rules.specs.Pieces.{EndSays, IsFront, IsLast, piece_of}
use Rattle.rotate_files.specs.declared.stop.Stop.{Stop}
use Rattle.rotate_files.specs.declared.stop.Stop.TheVariants as stop
use Rattle.rotate_files.specs.Copies.{Copies, IsCopying, StopsCopying}
use Rattle.rotate_files.specs.Rotating.{IsInStep, IsRotating, last_piece}
use Rattle.rotate_files.specs.Told.{HasMade, file_place, source_told, unopened_device}
use Rattle.rotate_run.specs.Rans.{how_of, unopened_of, waiting_of}

-- how many files so many bytes need

pub enough_of : (n given left files : ℕ) → given + left ≡ files * n → left < n → (i : ℕ) → (i < files) ↔ (i * n < given)
enough_of n given left files count some i = (
  λ (l : i < files). (let m : suc i * n ≤ files * n = mul-le-mul_right n l in omega (arith, m, count, some)),
  λ (l : i * n < given). ⊎_elim (λ (b : i < files). b) (λ (b : files ≤ i). let m : files * n ≤ i * n = mul-le-mul_right n b in absurd (omega (arith, m, count, l))) (cases_lt i files),
)

pub enough_between : (n given f : ℕ) → f * n < given → given ≤ suc f * n → (i : ℕ) → (i < suc f) ↔ (i * n < given)
enough_between n given f some most i = (
  λ (l : i < suc f). (let k : i ≤ f = omega arith in let m : i * n ≤ f * n = mul-le-mul_right n k in omega (arith, m, some)),
  λ (l : i * n < given). ⊎_elim (λ (b : i < suc f). b) (λ (b : suc f ≤ i). let m : suc f * n ≤ i * n = mul-le-mul_right n b in absurd (omega (arith, m, most, l))) (cases_lt i (suc f)),
)

-- a front of a front
front_front : (o : Option (List ℕ)) (xs ys : List ℕ) → IfSome o (λ c. IsFront (xs ++ ys) c) → IfSome o (λ c. IsFront xs c)
front_front None xs ys f = tt
front_front (Some c) xs ys f = (ys ++ f.0, f.1 ∙ append_assoc xs ys f.0)

take_front : (xs ys : List ℕ) → take (length xs) (xs ++ ys) ≡ xs
take_front [] ys = refl
take_front (x ∷ xs) ys = ap (λ l. x ∷ l) (take_front xs ys)

taken : (o : Option (List ℕ)) (xs : List ℕ) → IfSome o (λ c. IsFront xs c) → IfSome o (λ c. xs ≡ take (length xs) c)
taken None xs f = tt
taken (Some c) xs f = sym (ap (λ l. take (length xs) l) f.1 ∙ take_front xs f.0)

taken_less : (o : Option (List ℕ)) (m : ℕ) (xs ys : List ℕ) → length xs ≡ m → 0 < length ys → IfSome o (λ c. IsFront (xs ++ ys) c) → IfSome o (λ c. (m < length c) × (xs ≡ take m c))
taken_less None m xs ys size some f = tt
taken_less (Some c) m xs ys size some f =
    let is : c ≡ xs ++ (ys ++ f.0) = f.1 ∙ append_assoc xs ys f.0 in
    let long = ap length is ∙ length-append xs (ys ++ f.0) in
    let more = length-append ys f.0 in (
      omega (arith, size, some, long, more),
      sym (ap (λ k. take k c) (sym size) ∙ (ap (λ l. take (length xs) l) is ∙ take_front xs (ys ++ f.0))),
    )

-- closing a device changes nothing of what it gave
pub says_closed : (n : ℕ) (x : Exit) (ok : Bool) (d : DeviceTold) (given : List ℕ) (e : End) → EndSays n d given e → EndSays n (closed_as x ok d) given e
says_closed n x true d given Done s = record { ended = s.ended; count = s.count; bytes = s.bytes }
says_closed n x false d given Done s = record { ended = s.ended; count = s.count; bytes = s.bytes }
says_closed n x true d given (Fault code.Read) s = record { count = s.count; bytes = s.bytes }
says_closed n x false d given (Fault code.Read) s = record { count = s.count; bytes = s.bytes }
says_closed n x true d given (Fault code.TooMany) s = record { count = s.count; more = s.more; bytes = s.bytes }
says_closed n x false d given (Fault code.TooMany) s = record { count = s.count; more = s.more; bytes = s.bytes }
says_closed n x ok d given (Fault code.Open) s = tt
says_closed n x ok d given (Fault code.Write) s = tt
says_closed n x ok d given Cut s = tt
says_closed n x ok d given (Fault c) s = absurd s

-- what shows that it ended so: so many reads failed, so many writes of the last of so many files, and these couldn't be opened
abbrev pub HasCause : {V : Type 0} → How → ℕ → ℕ → ℕ → List V → Type 0
HasCause (how.Fault code.Read) reads writes files us = 1 ≤ reads
HasCause (how.Fault code.Write) reads writes files us = (1 ≤ writes) × (1 ≤ files)
HasCause {V} (how.Fault code.Open) reads writes files us = (d : V) × (us ≡ d ∷ [])
HasCause (how.Fault code.TooMany) reads writes files us = Unit {0}
HasCause (how.Fault _) reads writes files us = ⊥
HasCause how.Done reads writes files us = Unit {0}
HasCause how.Memory reads writes files us = Unit {0}
HasCause how.Halted reads writes files us = ⊥

module _ {V : Type 0} (told : V → DeviceTold) (old : DepotTold) (prefix : List ℕ) (n : ℕ) (path : List ℕ) where
  -- a rotation ended so, of which so many bytes were read, and these given to so many files
  pub record Came (a : Seen V) (h : Option Held) (now : DepotTold) (e : How) (unopened : List V) : Type 0 where
    pub files : ℕ
    pub given : List ℕ
    pub written : List ℕ
    pub writes : ℕ
    pub src : V
    pub read : ℕ
    pub ended : Bool
    pub reads : ℕ
    pub rotating : IsRotating told old prefix n a h files given written writes src
    pub device : told src ≡ source_told old path read ended reads
    pub made : HasMade old path prefix (files + length unopened) now
    pub few : files + length unopened ≤ 1024
    pub waits : (d : V) → IsAmong d unopened → (told d ≡ unopened_device old (suc files) (file_place prefix files)) × (e ≡ how.Fault code.Open)
    pub alone : length unopened ≤ 1
    pub reads_so : 0 < reads → e ≡ how.Fault code.Read
    pub writes_so : 0 < writes → e ≡ how.Fault code.Write
    pub front : IfSome (content_at old.files path) (λ c. IsFront given c)
    pub enough : (i : ℕ) → (i < files) ↔ (i * n < length given)
    pub last : (i : ℕ) → suc i ≡ files → IsLast (end_of e) written (piece_of n given i)
    pub says : EndSays n (source_told old path read ended reads) given (end_of e)
    pub cause : HasCause e reads writes files unopened

  module _ (a : Seen V) (h : Option Held) (now : DepotTold) where
    made_all : (k : ℕ) → HasMade old path prefix k now → HasMade old path prefix (k + 0) now
    made_all k m = let z : k ≡ k + 0 = omega arith in subst (λ j. HasMade old path prefix j now) z m

    the_last : (given : List ℕ) (files i : ℕ) → suc i ≡ files → last_piece n given files ≡ piece_of n given i
    the_last given files i e = ap (λ k. last_piece n given k) (sym e)

    done : (files left : ℕ) (c : IsCopying told old prefix n path a h now files left true 0) → IfSome (content_at old.files path) (λ bytes. c.given ≡ bytes) → Came a h now how.Done []
    done files left c whole = record {
      files = files;
      given = c.given;
      written = last_piece n c.given files;
      writes = 0;
      src = c.src;
      read = length c.given;
      ended = true;
      reads = 0;
      rotating = c.step.rotating;
      device = c.source.device;
      made = made_all files c.step.made;
      few = let f = c.step.rotating.few in omega (arith, f);
      waits = λ d m. absurd (among_nil m);
      alone = omega arith;
      reads_so = λ l. absurd (omega arith);
      writes_so = λ l. absurd (omega arith);
      front = c.source.front;
      enough = enough_of n (length c.given) left files c.step.count c.some;
      last = λ i e. the_last c.given files i e;
      says = record { ended = refl; count = refl; bytes = whole };
      cause = tt;
    }

    unread : (files left : ℕ) (ended : Bool) → IsCopying told old prefix n path a h now files left ended 1 → Came a h now (how.Fault code.Read) []
    unread files left ended c = record {
      files = files;
      given = c.given;
      written = last_piece n c.given files;
      writes = 0;
      src = c.src;
      read = length c.given;
      ended = ended;
      reads = 1;
      rotating = c.step.rotating;
      device = c.source.device;
      made = made_all files c.step.made;
      few = let f = c.step.rotating.few in omega (arith, f);
      waits = λ d m. absurd (among_nil m);
      alone = omega arith;
      reads_so = λ l. refl;
      writes_so = λ l. absurd (omega arith);
      front = c.source.front;
      enough = enough_of n (length c.given) left files c.step.count c.some;
      last = λ i e. the_last c.given files i e;
      says = record { count = refl; bytes = taken (content_at old.files path) c.given c.source.front };
      cause = omega arith;
    }

    unopened : (one : 1 ≤ n) (d : V) → StopsCopying told old prefix n path a h now (stop.Unopened d) → Came a h now (how.Fault code.Open) (d ∷ [])
    unopened one d c =
        let s = c.stops.1 in
        let files : ℕ = c.stops.0 in
        let z : suc files ≡ files + 1 = omega arith in
        record {
          files = files;
          given = c.given;
          written = last_piece n c.given files;
          writes = 0;
          src = c.src;
          read = length (c.given ++ c.rest);
          ended = false;
          reads = 0;
          rotating = s.rotating;
          device = c.source.device;
          made = subst (λ j. HasMade old path prefix j now) z s.made;
          few = let f = s.few in omega (arith, f);
          waits = λ e m. ⊎_elim (λ is. (ap told is ∙ s.device, refl)) (λ i. absurd (among_nil i)) (among_cons m);
          alone = omega arith;
          reads_so = λ l. absurd (omega arith);
          writes_so = λ l. absurd (omega arith);
          front = front_front (content_at old.files path) c.given c.rest c.source.front;
          enough = enough_of n (length c.given) 0 files (let k = s.count in omega (arith, k)) one;
          last = λ i e. the_last c.given files i e;
          says = tt;
          cause = (d, refl);
        }

    unwritten : StopsCopying told old prefix n path a h now stop.Unwritten → Came a h now (how.Fault code.Write) []
    unwritten c =
        let s = c.stops.1 in
        let f : ℕ = c.stops.0 in
        record {
          files = suc f;
          given = c.given;
          written = s.written;
          writes = 1;
          src = c.src;
          read = length (c.given ++ c.rest);
          ended = false;
          reads = 0;
          rotating = s.rotating;
          device = c.source.device;
          made = made_all (suc f) s.made;
          few = let k = s.rotating.few in omega (arith, k);
          waits = λ d m. absurd (among_nil m);
          alone = omega arith;
          reads_so = λ l. absurd (omega arith);
          writes_so = λ l. refl;
          front = front_front (content_at old.files path) c.given c.rest c.source.front;
          enough = enough_between n (length c.given) f s.some s.most;
          last = λ i e. let z : f ≡ i = omega (arith, e) in subst (λ j. IsFront s.written (piece_of n c.given j)) z s.front;
          says = tt;
          cause = (omega arith, omega arith);
        }

    too_many : (one : 1 ≤ n) → StopsCopying told old prefix n path a h now stop.TooMany → Came a h now (how.Fault code.TooMany) []
    too_many one c =
        let s = c.stops in
        let full : length c.given ≡ 1024 * n = (let k = s.count in omega (arith, k)) in
        let some : 0 < length c.rest = c.some refl in
        record {
          files = 1024;
          given = c.given;
          written = last_piece n c.given 1024;
          writes = 0;
          src = c.src;
          read = length (c.given ++ c.rest);
          ended = false;
          reads = 0;
          rotating = s.rotating;
          device = c.source.device;
          made = made_all 1024 s.made;
          few = omega arith;
          waits = λ d m. absurd (among_nil m);
          alone = omega arith;
          reads_so = λ l. absurd (omega arith);
          writes_so = λ l. absurd (omega arith);
          front = front_front (content_at old.files path) c.given c.rest c.source.front;
          enough = enough_of n (length c.given) 0 1024 s.count one;
          last = λ i e. the_last c.given 1024 i e;
          says = record { count = full; more = (let l = length-append c.given c.rest in omega (arith, l, full, some)); bytes = taken_less (content_at old.files path) (1024 * n) c.given c.rest full some c.source.front };
          cause = tt;
        }

    wanting : (one : 1 ≤ n) → StopsCopying told old prefix n path a h now stop.Memory → Came a h now how.Memory []
    wanting one c =
        let s = c.stops.1 in
        let files : ℕ = c.stops.0 in
        record {
          files = files;
          given = c.given;
          written = last_piece n c.given files;
          writes = 0;
          src = c.src;
          read = length (c.given ++ c.rest);
          ended = false;
          reads = 0;
          rotating = s.rotating;
          device = c.source.device;
          made = made_all files s.made;
          few = let f = s.rotating.few in omega (arith, f);
          waits = λ d m. absurd (among_nil m);
          alone = omega arith;
          reads_so = λ l. absurd (omega arith);
          writes_so = λ l. absurd (omega arith);
          front = front_front (content_at old.files path) c.given c.rest c.source.front;
          enough = enough_of n (length c.given) 0 files s.count one;
          last = λ i e. the_last c.given files i e;
          says = tt;
          cause = tt;
        }

    pub came : {T : Type 0} (one : 1 ≤ n) (files left : ℕ) (r : Result T (Stop V)) → Copies told old prefix n path a h now files left r → Came a h now (how_of r) (waiting_of (unopened_of r))
    came one files left (Ok x) c = done files left c.0 c.1
    came one files left (Err stop.Unread) c = unread files left c.0 c.1
    came one files left (Err (stop.Unopened d)) c = unopened one d c
    came one files left (Err stop.Unwritten) c = unwritten c
    came one files left (Err stop.TooMany) c = too_many one c
    came one files left (Err stop.Memory) c = wanting one c
