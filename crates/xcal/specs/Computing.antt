-- One name that opens every shut definition on the way from a document to its answer and from a calendar to its XML: `unfolding xcal_compute`.
use Rattle.std.specs.Prelude.{ℕ}
use Rattle.octets.specs.Computing.{octets_compute}
use Rattle.calendar.specs.Levels.{shallow}
use Rattle.calendar.specs.Refusal.{◌otherwise◌}
use Rattle.utf8.specs.Computing.{utf8_compute}
use Rattle.schema.specs.Computing.{schema_compute}
use Rattle.read_text_line.specs.Computing.{lines_compute}
use Rattle.values.specs.Computing.{values_compute}
use Rattle.xml.specs.Computing.{xml_compute}
use Rattle.xcal.specs.Layout.{has_capital, lacks, sequence, inner_element}
use Rattle.xcal.specs.ValueNodes.{element_type, first_type, type_of_nodes, period_inside, recur_inside, typed_verdict, value_verdict, child_named, items_of, parts_of, value_of, typed_values, read_value_nodes}
use Rattle.xcal.specs.ParameterNodes.{read_param_node, read_param_nodes, are_plain, are_spelled, has_encoding, parameter_verdict, parameters_verdict, read_parameter_nodes}
use Rattle.xcal.specs.PropertyNodes.{parameters_in, property_verdict, properties_verdict, read_properties}
use Rattle.xcal.specs.ComponentNodes.{inside_of, end_of_component, end_of_components, component_verdict, components_verdict, stream_verdict, root_verdict, read_components, read_inner, read_root}
use Rattle.xcal.specs.ReadDocument.{document_verdict, read_document}
use Rattle.xcal.specs.WriteXml.{items_xml, parts_xml, value_xml, values_xml, parameter_xml, parameters_xml, property_xml, properties_xml, components_element, components_xml, write_document}

unfoldable pub xcal_compute : ℕ
unfolding octets_compute ◌otherwise◌ utf8_compute schema_compute lines_compute values_compute xml_compute has_capital lacks sequence inner_element element_type first_type type_of_nodes period_inside recur_inside typed_verdict value_verdict child_named items_of parts_of value_of typed_values read_value_nodes read_param_node read_param_nodes are_plain are_spelled has_encoding parameter_verdict parameters_verdict read_parameter_nodes parameters_in property_verdict properties_verdict read_properties inside_of end_of_component end_of_components component_verdict components_verdict stream_verdict root_verdict read_components read_inner shallow read_root document_verdict read_document items_xml parts_xml value_xml values_xml parameter_xml parameters_xml property_xml properties_xml components_element components_xml write_document
xcal_compute = 0
