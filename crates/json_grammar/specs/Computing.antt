-- One name that opens every shut definition of this crate and of those it uses, for examples that compute: `unfolding grammar_compute`.
use Rattle.std.specs.Prelude.{ℕ}
use Rattle.json_text.specs.Computing.{json_compute}
use Rattle.json_grammar.specs.Grammar.{spelled_bytes, optional, spelled_chars, spelled_value, spelled_member, spelled_members, spelled_values, depth, depth_member, depth_members, depth_values, may_name, every_string, every_string_member, every_string_members, every_string_values}

unfoldable pub grammar_compute : ℕ
unfolding json_compute spelled_bytes optional spelled_chars spelled_value spelled_member spelled_members spelled_values depth depth_member depth_members depth_values may_name every_string every_string_member every_string_members every_string_values
grammar_compute = 0
