-- From the tables of words to the rows that clap reads of a command line.
use Rattle.std.proofs.Common.{◌≡◌, ◌∙◌, ◌+◌, ◌<◌, ◌&&◌, ◌||◌, ℕ, Bool, true, false, not, refl, sym, ap, ap₂, subst, List, [], ◌∷◌, ◌++◌, map, length, take, get_or, append_assoc, append-nil, Option, Some, option_map}
use Rattle.std.specs.Prelude.{flat_map, unwrap_or}
use Rattle.std.proofs.lemmas.List.{map-append, take_more}
use Rattle.std.proofs.lemmas.Grind.{flat_map-append}
use Rattle.std.specs.Borrow.{Bor}
use Rattle.std.specs.Net.Grammar.{IsIpText}
use Rattle.std.specs.declared.net.IpAddr.{IpAddr}
use Rattle.clap.specs.Adds.{AddsRequirements}
use Rattle.clap.specs.Matches.{first_value, matched_of, one_text, raw_values}
use Rattle.clap.specs.Walk.{is_empty, is_free_arg}
use Rattle.clap.specs.Words.{AddsArg, AddsSubcommand, App, HasMatchesOf, Row, Rule, Shape, Text, all_of, app_of, first_of, is_simple, one_of, rows_of, rule_of, subcommand_of, subcommand_rows_of, with_rule, with_subcommand}
use Rattle.clap.specs.declared.builder.arg.Arg.{Arg}
use Rattle.clap.specs.declared.builder.arg.ArgPredicate.{ArgPredicate}
use Rattle.clap.specs.declared.builder.command.Command.{Command}
use Rattle.clap.specs.declared.builder.command.Command.TheViews.{out-Command as fields_of}
use Rattle.clap.specs.declared.parser.matches.ArgMatches.{ArgMatches}
use Rattle.clap.specs.declared.parser.matches.Found.{Found}
use Rattle.clap.proofs.SimpleLemmas.{not_empty}
use Rattle.clap.proofs.WalkLemmas.{first_value-rows, one_text-rows, raw_values-rows}
use Rattle.iscsi_serve_words.specs.Rows.{AddsRules, IsCommand, IsWord, bare_program, rule_of_word, serve_program, serve_rows, serve_shape, serve_words, with_rules}
use Rattle.iscsi_serve_words.specs.Said.{IsListen, SaysJob, SaysServe, said_names}
use Rattle.iscsi_serve_words.specs.declared.serve_words.ServeJob.{ServeJob}
use Rattle.iscsi_serve_words.specs.declared.word.Word.{Word}

-- ---- what the getters of clap's matches read

pub first_in_rows : (f : Found) (id : Text) → first_value f id ≡ first_of id (rows_of f)
first_in_rows = first_value-rows

pub one_in_rows : (f : Found) (id : Text) → one_text f id ≡ one_of id (rows_of f)
one_in_rows = one_text-rows

pub all_in_rows : (f : Found) (id : Text) → option_map raw_values (matched_of f id) ≡ all_of id (rows_of f)
all_in_rows = raw_values-rows

-- ---- a word

-- what wants another argument beside it has a rule on it
none_free : (a b rest : Bool) → (a && (b && (false && rest))) ≡ false
none_free true true rest = refl
none_free true false rest = refl
none_free false b rest = refl

pub beside_another : (rule : Rule) (old new : Arg) (more : ArgPredicate × Bor Text) → IsWord rule old → AddsRequirements old new (more ∷ [])
    → IsWord (record rule { is_free = false }) new
beside_another rule old new more is h =
    let rest = is_empty old.r_ifs.items && (is_empty old.r_ifs_all.items
    && (is_empty old.r_unless.items && is_empty old.r_unless_all.items)) in
    let some : is_empty new.needs.items ≡ false = ap is_empty h.1 ∙ not_empty old.needs.items more in
    let free : is_free_arg new ≡ false =
    ap is_free_arg h.0
    ∙ ap (λ (b : Bool). not old.exclusive && (is_empty old.conflicts.items
    && (b && rest))) some
    ∙ none_free (not old.exclusive) (is_empty old.conflicts.items) rest in
    record {
      rule_is = ap rule_of h.0
          ∙ ap (λ (f : Bool). record (rule_of old) { is_free = f }) (sym (ap is_free_arg h.0) ∙ free)
          ∙ ap (λ (r : Rule). record r { is_free = false }) is.rule_is;
      own = ap (λ (a : Arg). a.global) h.0 ∙ is.own;
    }

-- ---- words in a row

or_false : (b : Bool) → (b || false) ≡ b
or_false true = refl
or_false false = refl

pub adds_word : (rule : Rule) (arg : Arg) (old new : Command) → IsWord rule arg → AddsArg old arg new → AddsRules (rule ∷ []) old new
adds_word rule arg old new is h = record {
  app_is = h.shape is.own ∙ ap (with_rule (app_of old)) is.rule_is;
  own = h.globals ∙ ap (λ (b : Bool). (fields_of old).has_globals || b) is.own ∙ or_false _;
}

no_more : (a : App) → a ≡ with_rules [] a
no_more a = ap (λ (rules : List Rule). record a { top = record a.top { rules = rules } }) (sym (append-nil a.top.rules))

then_more : (a : App) (rules more : List Rule) → with_rules more (with_rules rules a) ≡ with_rules (rules ++ more) a
then_more a rules more =
    ap (λ (all : List Rule). record a { top = record a.top { rules = all } }) (append_assoc a.top.rules rules more)

pub no_words : (c : Command) → AddsRules [] c c
no_words c = record { app_is = no_more (app_of c); own = refl }

then_adds : (rules more : List Rule) (old now new : Command) → AddsRules rules old now → AddsRules more now new → AddsRules (rules ++ more) old new
then_adds rules more old now new h k = record {
  app_is = k.app_is ∙ ap (with_rules more) h.app_is ∙ then_more (app_of old) rules more;
  own = k.own ∙ h.own;
}

pub one_word_more : (words : List Word) (i : ℕ) (d : Word) (old now new : Command) → i < length words
    → AddsRules (map rule_of_word (take i words)) old now → AddsRules (rule_of_word (get_or words i d) ∷ []) now new
    → AddsRules (map rule_of_word (take (i + 1) words)) old new
one_word_more words i d old now new lt h k =
    let more : map rule_of_word (take (i + 1) words) ≡ map rule_of_word (take i words) ++ rule_of_word (get_or words i d) ∷ [] =
    ap (map rule_of_word) (take_more words i d lt) ∙ map-append rule_of_word (take i words) (get_or words i d ∷ []) in
    subst (λ (rules : List Rule). AddsRules rules old new) (sym more) (then_adds _ _ old now new h k)

-- ---- lists in a row

abbrev pub rules_of_list : Bor (List Word) → List Rule
rules_of_list words = map rule_of_word words.now

pub one_list_more : (lists : List (Bor (List Word))) (i : ℕ) (d : Bor (List Word)) (old now new : Command) → i < length lists
    → AddsRules (flat_map rules_of_list (take i lists)) old now → AddsRules (rules_of_list (get_or lists i d)) now new
    → AddsRules (flat_map rules_of_list (take (i + 1) lists)) old new
one_list_more lists i d old now new lt h k =
    let more : flat_map rules_of_list (take (i + 1) lists) ≡ flat_map rules_of_list (take i lists) ++ rules_of_list (get_or lists i d) =
    ap (flat_map rules_of_list) (take_more lists i d lt)
    ∙ flat_map-append rules_of_list (take i lists) (get_or lists i d ∷ [])
    ∙ ap (λ (rules : List Rule). flat_map rules_of_list (take i lists) ++ rules) (append-nil (rules_of_list (get_or lists i d))) in
    subst (λ (rules : List Rule). AddsRules rules old new) (sym more) (then_adds _ _ old now new h k)

pub all_lists : (top : Shape) (rules : List Rule) (old new : Command) → top.rules ≡ []
    → IsCommand (record { top = top; subs = [] }) old → AddsRules rules old new
    → IsCommand (record { top = record top { rules = rules }; subs = [] }) new
all_lists top rules old new none is h = record {
  app_is = h.app_is ∙ ap (with_rules rules) is.app_is
      ∙ ap (λ (before : List Rule). record { top = record top { rules = before ++ rules }; subs = [] }) none;
  own = h.own ∙ is.own;
}

-- ---- the program, and what it reads

pub adds_command : (sub : Shape) (program old serve new : Command) → IsCommand (record { top = sub; subs = [] }) serve → sub ≡ serve_shape
    → IsCommand bare_program old → AddsSubcommand old serve new → IsCommand serve_program new
adds_command sub program old serve new is same bare h = record {
  app_is = h.shape is.own ∙ ap₂ with_subcommand bare.app_is (ap (λ (a : App). a.top) is.app_is ∙ same);
  own = h.globals ∙ ap₂ (λ (a b : Bool). a || b) bare.own is.own;
}

serve_is_simple : is_simple serve_program ≡ true
unfolding serve_words
serve_is_simple = refl

pub enters : (command : Command) (words : List Text) (m : ArgMatches) → IsCommand serve_program command → HasMatchesOf (app_of command) words m
    → subcommand_rows_of m ≡ subcommand_of serve_program words
enters command words m is h =
    (h (ap is_simple is.app_is ∙ serve_is_simple)).1 ∙ ap (λ (a : App). subcommand_of a words) is.app_is

abbrev pub rows_behind : Option (Text × List Row) → Option (List Row)
rows_behind = option_map (λ entered. entered.1)

rows_are : (words : List Text) (m : ArgMatches) (rows : List Row) → subcommand_rows_of m ≡ subcommand_of serve_program words
    → Some rows ≡ rows_behind (subcommand_rows_of m) → rows ≡ serve_rows words
rows_are words m rows read is = ap (λ (o : Option (List Row)). unwrap_or o []) (is ∙ ap rows_behind read)

pub says_words : (words : List Text) (m : ArgMatches) (rows : List Row) (job : ServeJob) → subcommand_rows_of m ≡ subcommand_of serve_program words
    → Some rows ≡ rows_behind (subcommand_rows_of m) → SaysServe rows job → SaysJob words job
says_words words m rows job read is = subst (λ (r : List Row). SaysServe r job) (rows_are words m rows read is)

pub lists_words : (words : List Text) (m : ArgMatches) (rows : List Row) (names : List Text) → subcommand_rows_of m ≡ subcommand_of serve_program words
    → Some rows ≡ rows_behind (subcommand_rows_of m) → names ≡ said_names rows → names ≡ said_names (serve_rows words)
lists_words words m rows names read is h = h ∙ ap said_names (rows_are words m rows read is)

pub listens : (said : Option Text) (text : Text) (address : IpAddr) → Some text ≡ said → IsIpText text address → IsListen said address
listens said text address is h = subst (λ (s : Option Text). IsListen s address) is h
