-- A form that is not there is refused at every place. Assumes nothing.
use Rattle.std.proofs.Common.{false, ap}
use Rattle.lists.specs.Lists.{document_list, struct_list}
use Rattle.lists.specs.Places.{document, a_node, value, identifier, a_group, arg_list, omission}
use Rattle.replies.specs.Shapes.{values, nodes}
use Rattle.replies.specs.Replies.{truth, sequence, mapping, unmarked, value_any, identifier_text, with_form, UnknownRefused}

pub unknown_refused : UnknownRefused
unknown_refused fs (document ns) i h = ap (λ o. with_form o (λ f. unmarked (mapping (document_list ns)))) h
unknown_refused fs (a_node n) i h = ap (λ o. with_form o (λ f. unmarked (mapping (struct_list f n)))) h
unknown_refused fs (value e) i h = ap (λ o. with_form o (λ f. value_any e)) h
unknown_refused fs (identifier t) i h = ap (λ o. with_form o (λ f. identifier_text t)) h
unknown_refused fs (a_group ns) i h = ap (λ o. with_form o (λ f. unmarked (sequence (nodes ns)))) h
unknown_refused fs (arg_list as') i h = ap (λ o. with_form o (λ f. unmarked (sequence (values as')))) h
unknown_refused fs omission i h = ap (λ o. with_form o (λ f. unmarked (truth false))) h
