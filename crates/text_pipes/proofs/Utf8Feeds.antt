-- What a pipe of UTF-8 answers.
use Rattle.std.proofs.Common.{◌≡◌, ℕ, false, List, [], ◌++◌, map, take, drop, Option, Some, None, is_some, ap, ◌∙◌, sym}
use Rattle.std.proofs.lemmas.List.{map-append}
use Rattle.std.specs.Prelude.{IsUtf8}
use Rattle.std.specs.Str.Lossy.{utf8_valid_len, utf8_error_len}
use Rattle.chunk_core.specs.Elements.{Element, Byte}
use Rattle.chunk_core.specs.Elements.LoadKind.{Bytes}
use Rattle.chunk_core.specs.Feed.{Meaning, Extends}
use Rattle.chunk_core.specs.declared.code.Code.{Code}
use Rattle.chunk_core.specs.declared.load.Load.TheVariants as load
use Rattle.pull_nodes.specs.Pipes.{IsMeaningOf}
use Rattle.pull_nodes.specs.Plain.{bytes_of}
use Rattle.pull_nodes.specs.Utf8.{utf8_front, utf8_rest, is_malformed, part_fault}
use Rattle.pull_nodes.specs.declared.pipe.Pipe.TheVariants as pipe
use Rattle.pull_nodes.proofs.Malformed.{nil-error_len}
use Rattle.pull_nodes.proofs.Meanings.{meaning_is, from_bytes-some, extends_from, bytes_of-load}
use Rattle.pull_nodes.proofs.Utf8Cuts.{text_is_front}
use Rattle.pull_nodes.proofs.Utf8Laws.{front-append, rest-append}
use Rattle.text_pipes.specs.Utf8State.{StandsAt, fault_where}

pub gives_bytes : (m : Meaning) → IsMeaningOf pipe.Utf8 m → m.gives ≡ Bytes
gives_bytes m h = (from_bytes-some Bytes m.takes m.gives (meaning_is pipe.Utf8 m h).1).1

-- no byte is at fault, and so none is malformed
pub fine_where : (rest : List ℕ) → utf8_error_len rest ≡ None → is_malformed rest ≡ false
fine_where rest e = ap (λ (o : Option ℕ). is_some o) e

pub nil-fine : is_malformed [] ≡ false
nil-fine = fine_where [] nil-error_len

pub part_fault-fine : (rest : List ℕ) → is_malformed rest ≡ false → part_fault rest ≡ None
part_fault-fine rest fine = ap fault_where fine

-- the bytes of what came before and of a load
pub bytes_then : (xs ys : List Element) (bytes : List ℕ) → ys ≡ map Byte bytes → bytes_of (xs ++ ys) ≡ bytes_of xs ++ bytes
bytes_then xs ys bytes e = ap (λ l. bytes_of (xs ++ l)) e ∙ bytes_of-load xs bytes

-- the bytes of a load behind those held back decide what follows the front
rest_then : (kept bytes all : List ℕ) → all ≡ kept ++ bytes → (xs ys : List Element) → ys ≡ map Byte bytes → StandsAt kept (bytes_of xs) → utf8_rest (bytes_of (xs ++ ys)) ≡ utf8_rest all
rest_then kept bytes all is xs ys e s =
    ap utf8_rest (bytes_then xs ys bytes e) ∙ (rest-append (bytes_of xs) bytes ∙ ap utf8_rest (sym (is ∙ ap (λ l. l ++ bytes) s.held)))

-- the answer to a load
pub utf8_extends : (kept bytes all front : List ℕ) (c : Option Code) → all ≡ kept ++ bytes → front ≡ utf8_front all → part_fault (utf8_rest all) ≡ c
    → (m : Meaning) (xs ys : List Element) → ys ≡ map Byte bytes → IsMeaningOf pipe.Utf8 m → StandsAt kept (bytes_of xs) → Extends m xs ys (load.Bytes front) c
utf8_extends kept bytes all front c is first fault m xs ys e h s =
    let text = bytes_of xs in
    let more : utf8_front (utf8_rest text ++ bytes) ≡ front = ap utf8_front (sym (is ∙ ap (λ l. l ++ bytes) s.held)) ∙ sym first in
    let longer : utf8_front (bytes_of (xs ++ ys)) ≡ utf8_front text ++ front =
    ap utf8_front (bytes_then xs ys bytes e) ∙ (front-append text bytes ∙ ap (λ l. utf8_front text ++ l) more) in
    let kind = (meaning_is pipe.Utf8 m h).1 ∙ ap (λ k. Some k) (gives_bytes m h) in
    extends_from pipe.Utf8 m h xs ys (load.Bytes front) c kind
    (sym (map-append Byte (utf8_front text) front) ∙ ap (map Byte) (sym longer))
    (ap part_fault (rest_then kept bytes all is xs ys e s) ∙ fault)

-- what is held back after it
pub utf8_stands : (kept bytes all rest : List ℕ) → all ≡ kept ++ bytes → rest ≡ utf8_rest all → is_malformed (utf8_rest all) ≡ false
    → (xs ys : List Element) → ys ≡ map Byte bytes → StandsAt kept (bytes_of xs) → StandsAt rest (bytes_of (xs ++ ys))
utf8_stands kept bytes all rest is last fine xs ys e s =
    let same = rest_then kept bytes all is xs ys e s in
    record { held = last ∙ sym same; fine = ap is_malformed same ∙ fine }

-- well-formed bytes, all of which come out
pub whole_front : (all : List ℕ) → IsUtf8 all → (all ≡ utf8_front all) × ([] ≡ utf8_rest all) × (is_malformed (utf8_rest all) ≡ false)
whole_front all text =
    let parts = text_is_front all text in
    (sym parts.0, sym parts.1, ap is_malformed parts.1 ∙ nil-fine)

-- the longest well-formed front of bytes, and what is at fault behind it
pub cut_at : (all slice : List ℕ) (n k : ℕ) (e : Option ℕ) → slice ≡ all → n ≡ k → k ≡ utf8_valid_len slice → e ≡ utf8_error_len (drop k slice)
    → (take n all ≡ utf8_front all) × (drop n all ≡ utf8_rest all) × (is_some e ≡ is_malformed (utf8_rest all))
cut_at all slice n k e same is len fault =
    let at : k ≡ utf8_valid_len all = len ∙ ap utf8_valid_len same in
    let cut : n ≡ utf8_valid_len all = is ∙ at in
    let rest : drop k slice ≡ utf8_rest all = ap (drop k) same ∙ ap (λ j. drop j all) at in
    (ap (λ j. take j all) cut, ap (λ j. drop j all) cut, ap (λ (o : Option ℕ). is_some o) (fault ∙ ap utf8_error_len rest))
