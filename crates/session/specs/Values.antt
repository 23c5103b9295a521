-- Values as two words: a letter for the kind, and the value.
use Rattle.std.specs.Prelude.{ℕ, ◌-◌, ◌^◌, Bool, true, false, List, ℤ, vec_items, Option}
use Rattle.std.specs.Option.{option_map, option_and_then}
use Rattle.session.specs.declared.kind_word.ValueKind.{ValueKind}
use Rattle.session.specs.declared.kind_word.ValueKind.TheVariants as Kind
use Rattle.session.specs.declared.value_word.ValueWord.{ValueWord}
use Rattle.session.specs.declared.value_word.ValueWord.TheVariants.{Text, Float, Int, Bool as Flag, Bytes, KeyValue, List as Listing}
use Rattle.session.specs.Kinds.{kind_of}
use Rattle.session.specs.Numerals.{float_of, flag_of, signed_of, unsigned_of}
use Rattle.session.specs.Texts.{text_of}

-- what two words mean
pub data Meaning : Type 0 where
  a_text : List ℕ → Meaning
  a_float : ℕ → Meaning
  an_int : ℤ → Meaning
  a_bool : Bool → Meaning
  some_bytes : ℕ → Meaning
  a_key_value : ℕ → Meaning
  a_list : ℕ → Meaning

-- what a value that was read means
abbrev pub meaning : ValueWord → Meaning
meaning (Text t) = a_text (vec_items t)
meaning (Float n) = a_float n
meaning (Int z) = an_int z
meaning (Flag b) = a_bool b
meaning (Bytes n) = some_bytes n
meaning (KeyValue n) = a_key_value n
meaning (Listing n) = a_list n

-- only a text is read into memory
abbrev pub is_text : Meaning → Bool
is_text (a_text t) = true
is_text (a_float n) = false
is_text (an_int z) = false
is_text (a_bool b) = false
is_text (some_bytes n) = false
is_text (a_key_value n) = false
is_text (a_list n) = false

-- the number by which a host keeps a value
abbrev pub host_number : List ℕ → Option ℕ
host_number word = unsigned_of (2 ^ 64 - 1) word

-- the value of a kind that a word means
abbrev pub value_as : ValueKind → List ℕ → Option Meaning
value_as Kind.Text word = option_map a_text (text_of word)
value_as Kind.Float word = option_map a_float (float_of word)
value_as Kind.Int word = option_map an_int (signed_of word)
value_as Kind.Bool word = option_map a_bool (flag_of word)
value_as Kind.Bytes word = option_map some_bytes (host_number word)
value_as Kind.KeyValue word = option_map a_key_value (host_number word)
value_as Kind.List word = option_map a_list (host_number word)

-- the value that the word of a kind and another word mean
abbrev pub value_of : List ℕ → List ℕ → Option Meaning
value_of kind word = option_and_then (λ k. value_as k word) (kind_of kind)
