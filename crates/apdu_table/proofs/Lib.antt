mod Field
