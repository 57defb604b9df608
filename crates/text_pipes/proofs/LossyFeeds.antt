-- What a pipe of lossy text answers.
use Rattle.std.proofs.Common.{◌≡◌, ℕ, ◌<◌, List, [], ◌++◌, map, length, drop, Option, Some, None, refl, ap, ◌∙◌, sym, arith}
use Rattle.std.proofs.lemmas.List.{append-nil, map-append, drop_all, length-map}
use Rattle.std.proofs.lemmas.Str.{IsUtf8-nil, utf8_lossy-IsUtf8}
use Rattle.std.specs.Prelude.{unwrap_or}
use Rattle.std.specs.Str.Lossy.{utf8_lossy, utf8_error_len, utf8_invalid_len, replacement_bytes}
use Rattle.chunk_core.specs.Elements.{Element, Byte}
use Rattle.chunk_core.specs.Elements.LoadKind.{Bytes}
use Rattle.chunk_core.specs.Feed.{Meaning, Extends, Continues, Finishes}
use Rattle.chunk_core.specs.declared.code.Code.{Code}
use Rattle.chunk_core.specs.declared.feed.Fed.{Fed}
use Rattle.chunk_core.specs.declared.feed.Fed.TheVariants as fed
use Rattle.chunk_core.specs.declared.load.Load.TheVariants as load
use Rattle.pull_nodes.specs.Pipes.{IsMeaningOf}
use Rattle.pull_nodes.specs.Plain.{bytes_of}
use Rattle.pull_nodes.specs.Utf8.{finished_front, unfinished_rest}
use Rattle.pull_nodes.specs.declared.pipe.Pipe.TheVariants as pipe
use Rattle.pull_nodes.proofs.LossyCuts.{lossy-at, lossy-finished, lossy-whole}
use Rattle.pull_nodes.proofs.LossyLaws.{IsOpen, rest-IsOpen, unfinished_rest-append}
use Rattle.pull_nodes.proofs.Malformed.{none_unless}
use Rattle.pull_nodes.proofs.Meanings.{meaning_is, from_bytes-some, extends_from, finishes_from}
use Rattle.text_pipes.proofs.Utf8Feeds.{bytes_then}

pub gives_bytes : (m : Meaning) → IsMeaningOf pipe.Lossy m → m.gives ≡ Bytes
gives_bytes m h = (from_bytes-some Bytes m.takes m.gives (meaning_is pipe.Lossy m h).1).1

joined_is : (kept bytes all : List ℕ) (xs : List Element) → all ≡ kept ++ bytes → kept ≡ unfinished_rest (bytes_of xs) → unfinished_rest (bytes_of xs) ++ bytes ≡ all
joined_is kept bytes all xs is s = sym (is ∙ ap (λ l. l ++ bytes) s)

-- the answer to a load
pub lossy_extends : (kept bytes all front text : List ℕ) → all ≡ kept ++ bytes → front ≡ finished_front all → text ≡ utf8_lossy front
    → (m : Meaning) (xs ys : List Element) → ys ≡ map Byte bytes → IsMeaningOf pipe.Lossy m → kept ≡ unfinished_rest (bytes_of xs) → Extends m xs ys (load.Bytes text) None
lossy_extends kept bytes all front text is first read m xs ys e h s =
    let old = bytes_of xs in
    let more : utf8_lossy (finished_front (unfinished_rest old ++ bytes)) ≡ text =
    ap (λ l. utf8_lossy (finished_front l)) (joined_is kept bytes all xs is s) ∙ sym (read ∙ ap utf8_lossy first) in
    let longer : utf8_lossy (finished_front (bytes_of (xs ++ ys))) ≡ utf8_lossy (finished_front old) ++ text =
    ap (λ l. utf8_lossy (finished_front l)) (bytes_then xs ys bytes e) ∙ (lossy-finished old bytes ∙ ap (λ l. utf8_lossy (finished_front old) ++ l) more) in
    let kind = (meaning_is pipe.Lossy m h).1 ∙ ap (λ k. Some k) (gives_bytes m h) in
    extends_from pipe.Lossy m h xs ys (load.Bytes text) None kind
    (sym (map-append Byte (utf8_lossy (finished_front old)) text) ∙ ap (map Byte) (sym longer)) refl

-- what is held back after it
pub lossy_stands : (kept bytes all rest : List ℕ) → all ≡ kept ++ bytes → rest ≡ unfinished_rest all
    → (xs ys : List Element) → ys ≡ map Byte bytes → kept ≡ unfinished_rest (bytes_of xs) → rest ≡ unfinished_rest (bytes_of (xs ++ ys))
lossy_stands kept bytes all rest is last xs ys e s =
    last ∙ sym (ap unfinished_rest (bytes_then xs ys bytes e) ∙ (unfinished_rest-append (bytes_of xs) bytes ∙ ap unfinished_rest (joined_is kept bytes all xs is s)))

-- the answer where the input has ended
pub lossy_finishes : (kept : List ℕ) (m : Meaning) (xs : List Element) (answer : Fed) (Next : List Element → Option Code → Type 0) → IsMeaningOf pipe.Lossy m
    → kept ≡ unfinished_rest (bytes_of xs) → Continues m.gives (map Byte (utf8_lossy kept)) None answer Next → Finishes m xs answer Next
lossy_finishes kept m xs answer Next h s given =
    let old = bytes_of xs in
    let whole : utf8_lossy (finished_front old) ++ utf8_lossy kept ≡ utf8_lossy old = ap (λ l. utf8_lossy (finished_front old) ++ utf8_lossy l) s ∙ sym (lossy-whole old) in
    finishes_from pipe.Lossy m h xs (map Byte (utf8_lossy kept)) answer Next
    (sym (map-append Byte (utf8_lossy (finished_front old)) (utf8_lossy kept)) ∙ ap (map Byte) whole) given

pub nothing_read : (kept : List ℕ) → length kept ≡ 0 → map Byte (utf8_lossy kept) ≡ []
nothing_read kept none =
    let nil : kept ≡ [] = drop_all 0 kept (omega arith) in
    ap (λ l. map Byte (utf8_lossy l)) nil ∙ ap (map Byte) (utf8_lossy-IsUtf8 [] IsUtf8-nil)

open_mark : (r : List ℕ) → IsOpen r → utf8_lossy r ≡ replacement_bytes
open_mark r o =
    let len : utf8_invalid_len r ≡ length r = ap (λ e. unwrap_or e (length r)) (none_unless (utf8_error_len r) o.fine) in
    let none : drop (utf8_invalid_len r) r ≡ [] = drop_all (utf8_invalid_len r) r (omega (arith, len)) in
    lossy-at [] r IsUtf8-nil o.none o.some ∙ ap (λ l. replacement_bytes ++ l) (ap utf8_lossy none ∙ utf8_lossy-IsUtf8 [] IsUtf8-nil)

-- an unfinished character at the end becomes one mark
pub mark_comes : (kept mark : List ℕ) (m : Meaning) (xs : List Element) (Next : List Element → Option Code → Type 0) → IsMeaningOf pipe.Lossy m
    → kept ≡ unfinished_rest (bytes_of xs) → 0 < length kept → mark ≡ replacement_bytes → Next [] None → Finishes m xs (fed.Out (load.Bytes mark)) Next
mark_comes kept mark m xs Next h s some is next =
    let r = unfinished_rest (bytes_of xs) in
    let o = rest-IsOpen (bytes_of xs) (omega (arith, ap length s)) in
    let read : utf8_lossy kept ≡ mark = ap utf8_lossy s ∙ (open_mark r o ∙ sym is) in
    let three : length mark ≡ 3 = ap length is in
    lossy_finishes kept m xs (fed.Out (load.Bytes mark)) Next h s
    (sym (gives_bytes m h), omega (arith, three, length-map mark Byte), [], ap (map Byte) read ∙ sym (append-nil (map Byte mark)), next)
